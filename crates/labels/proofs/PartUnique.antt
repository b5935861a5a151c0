-- Show's part has one place and one length.
use mathlib.Core.Path.{◌≡◌, sym, ap, ◌∙◌}
use mathlib.Core.List.{List}
use Prim.Native.Nat.{ℕ, ◌+◌, ◌≤◌}
use native.Mathlib.Decide.{ℕ_discrete}
use native.Mathlib.Omega.{arith}
use lib.ListN.{length, take, drop, length-drop}
use lib.Seq.{length-take-le}
use Rattle.files.proofs.ShowUnique.{shown_unique}
use Rattle.labels.specs.Part.{PartShown}

pub record SamePart (at count at' count' : ℕ) : Type 0 where
  pub same_place : at ≡ at'
  pub same_length : count ≡ count'

-- a part that stands in the lent bytes has its whole length
whole_part : (labels : List ℕ) (at count : ℕ) → at + count ≤ length labels → length (take count (drop at labels)) ≡ count
whole_part labels at count inside = length-take-le count (drop at labels) (omega (arith, length-drop at labels))

-- No second outcome meets the statement
pub part_unique :
    {labels : List ℕ} {v u at count at' count' : ℕ} → PartShown labels v u at count → PartShown labels v u at' count' → SamePart at count at' count'
part_unique {labels} {v} {u} {at} {count} {at'} {count'} p q = record { same_place = pick (ℕ_discrete count 0); same_length = same }
  where
    same : count ≡ count'
    same = sym (whole_part labels at count p.inside) ∙ ap length (shown_unique p.shown q.shown) ∙ whole_part labels at' count' q.inside

    pick : Dec (count ≡ 0) → at ≡ at'
    pick (yes e) = p.empty e ∙ sym (q.empty (sym same ∙ e))
    pick (no n) = p.place (omega arith) ∙ sym (q.place (omega (arith, same)))
