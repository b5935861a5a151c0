-- The best of a set below a bound. In this order: what is noted; what is told; the list of the set.
use mathlib.Core.Path.{◌≡◌, subst}
use mathlib.Core.List.{List, Memᴰ}
use Prim.Native.Nat.{ℕ, ◌+◌, ◌-◌, ◌≤◌, ◌<◌}
use native.Mathlib.Omega.{arith}
use lib.ListN.{get_or}
use Rattle.std.specs.Prelude.{Option, Some, None, Result, Ok, Err}
use Rattle.paths.specs.Weights.{energy, pair, spent, Within}
use Rattle.paths.specs.TradeOff.{Ordered}
use Rattle.paths.specs.declared.pair.Pair.{Pair}
use Rattle.paths.proofs.Figures.{number_lawful}
use Rattle.paths.proofs.Weights.{⊑_not_later, not_later_antisym}
use Rattle.paths.proofs.OneLimit.{LastWithin, rises-ordered, best_is_last_entry}
use Rattle.lists.specs.Entries.{Weight}
use Rattle.spans.specs.declared.Span.{Span}
use Rattle.spans.specs.working.Noting.{no_energy, Sought}
use Rattle.spans.specs.working.Waiting.{most_time, Waiting, BestBelow}
use Rattle.spans.specs.working.Below.{FiguresFit, FoundBelow, BelowIs, NextBelow, NoneBelow, BelowOrWhy, NextOrWhy, ListOf}
use Rattle.spans.proofs.WaitingLaws.{noted-best, noted-waits}

-- ---- What is noted

-- the second found has the best below the bound
pub below-noted :
    {Has : Weight → Type 0} {bound : ℕ} {span : Span} {leasts : List ℕ} {r t e : ℕ} → Waiting Has bound span leasts → bound ≤ no_energy →
    Sought leasts span.passed span.noted bound r → r < span.noted → t ≡ span.first.0 + r → e ≡ get_or leasts r 0 →
    FoundBelow Has bound (pair t e) (record { first = span.first; noted = span.noted; passed = r + 1 }) leasts
below-noted now most sought inside is-time is-energy =
    record { best = noted-best now most sought inside is-time is-energy; waits = noted-waits now most sought inside is-time is-energy }

-- ---- What is told

-- where a sum was found and where none was
module _ {Has : Weight → Type 0} {bound : ℕ} {next : Option Pair} {span : Span} {leasts : List ℕ} (below : NextBelow Has bound next span leasts) where
  pub told-found : {p : Pair} → next ≡ Some p → FoundBelow Has bound (pair p.time.0 p.energy.0) span leasts
  told-found is = subst (BelowIs Has bound span leasts) is below.told

  pub told-none : next ≡ None → (p : Weight) → Has p → bound ≤ spent energy p
  told-none is = subst (BelowIs Has bound span leasts) is below.told

-- the same where a reason is told
module _ {Missing : Type 0} {Has : Weight → Type 0} {Says : ℕ → Missing → Type 0} {bound : ℕ} {next : Result Pair Missing} {before after : Span} {leasts : List ℕ}
    (below : NextOrWhy Has Says bound next before after leasts) where
  pub why-found : {p : Pair} → next ≡ Ok p → FoundBelow Has bound (pair p.time.0 p.energy.0) after leasts
  why-found is = subst (BelowOrWhy Has Says bound before after leasts) is below.told

  pub why-none : {why : Missing} → next ≡ Err why → NoneBelow Has Says bound why before after
  why-none is = subst (BelowOrWhy Has Says bound before after leasts) is below.told

-- ---- The list of the set

module _ {Has : Weight → Type 0} {l : List Weight} (right : ListOf Has l) where
  -- no entry beats another
  pub list-ordered : Ordered l
  list-ordered = rises-ordered right.rising (λ p q m k b. (right.real k).unbeaten p (right.real m).among b)

  -- every entry has less energy than the first bound
  pub list-small : ((p : Weight) → Has p → FiguresFit p) → (p : Weight) → Memᴰ p l → spent energy p ≤ most_time
  list-small fit p m = (fit p (right.real m).among).energy_fits

  module _ {bound : ℕ} (some : 0 < bound) where
    -- the best below the bound is beaten by none, so it is an entry, and the last one there
    pub below-last : {p : Weight} → BestBelow Has bound p → LastWithin l (bound - 1) p
    below-last best =
        best_is_last_entry list-ordered
        (record {
          member =
              right.complete
              (record {
                among = best.among;
                unbeaten =
                    λ q h b.
                    b.smaller
                    (not_later_antisym number_lawful (⊑_not_later number_lawful b.no_larger) (best.least q h (omega (arith, b.no_larger.0, best.below))));
              });
          within = omega (arith, best.below);
          least = λ {q} m h. best.least q (right.real m).among (omega arith);
        })

    -- nothing of the set, no entry
    pub nothing-left : ((p : Weight) → Has p → bound ≤ spent energy p) → (q : Weight) → Memᴰ q l → Within energy (bound - 1) q → ⊥
    nothing-left none q m within = omega (arith, none q (right.real m).among)
