-- Finding the bytes to show, one law for each way through.
-- In this order: whether a junction is a proper ancestor; the bytes of a list.
use mathlib.Core.Path.{◌≡◌, refl, sym, ap, ◌∙◌}
use mathlib.Core.Logic.{inr, ⊎_elim}
use mathlib.Core.Bool.{Bool, true, not, false≢true}
use mathlib.Core.List.{List}
use Prim.Native.Nat.{ℕ, ◌+◌, ◌≤◌, ◌<◌}
use native.Mathlib.Omega.{arith}
use lib.ListN.{length}
use borrow.Author.Tests.{eq-eqb}
use lib.Dec.{eqb}
use Rattle.network.specs.Versions.{version_one}
use Rattle.network.specs.NetworkFile.{junctions_of}
use Rattle.forest.specs.LabelFile.{list_end}
use Rattle.forest.specs.Forest.{depth_of, is_ancestor}
use Rattle.files.specs.LabelForm.{labels_number_alone}
use Rattle.forest.specs.working.Fits.{ParentsFit}
use Rattle.stored.specs.working.Formed.{Formed}
use Rattle.stored.specs.working.Scanned.{FoundList}
use Rattle.files.specs.working.Span.{AboveTested, ListSpan}
use Rattle.forest.proofs.Forest.{above_shallower, is_ancestor_sound, is_ancestor_complete}
use Rattle.stored.proofs.Places.{list-takes, found-fits}

-- ---- Whether u is a proper ancestor of v

module _ {labels : List ℕ} (fit : ParentsFit labels) where
  -- a junction is none of itself
  pub above_itself : (u v : ℕ) → u ≡ v → AboveTested labels u v (not (eqb u v))
  above_itself u v e =
      rw (eq-eqb u v e)
      (record {
        yes! = λ z. absurd (false≢true z);
        no! = λ z above. omega (arith, above_shallower labels fit.ends above, ap (depth_of labels) e);
      })

  -- of any other an ancestor is a proper one
  pub above_other : (u v : ℕ) {r : Bool} → v < junctions_of labels → (u ≡ v → ⊥) → r ≡ is_ancestor labels u v → AboveTested labels u v r
  above_other u v below apart is =
      record {
        yes! = λ z. ⊎_elim (λ e. absurd (apart e)) (λ above. above) (is_ancestor_sound fit u v below (sym is ∙ z));
        no! = λ z above. false≢true (sym z ∙ is ∙ is_ancestor_complete fit below (inr above));
      }

  pub above_deeper : {u v : ℕ} → AboveTested labels u v true → depth_of labels u < depth_of labels v
  above_deeper tested = above_shallower labels fit.ends (tested.yes! refl)

-- ---- The bytes of a list

-- a list that was found has its count in the file
pub found_stands : {labels : List ℕ} {v u at : ℕ} → Formed labels → FoundList labels v u at → at + 2 ≤ length labels
found_stands {labels} {at = at} formed found = omega (arith, list-takes labels at, (found-fits formed found).inside)

-- and is shown from its count through its last entry
pub span_list :
    {labels : List ℕ} {v u n at end : ℕ} → labels_number_alone version_one labels ≡ 0 → Formed labels → n ≡ junctions_of labels → v < n → u < n →
    AboveTested labels u v true → FoundList labels v u at → end ≡ list_end labels at → ListSpan labels v u (record { start = at; end = end })
span_list {labels} {v} {u} {n} {at} {end} passes formed n-is v-on u-on tested found is =
    record {
      shows =
          record {
            formed = passes;
            junction = omega arith;
            ancestor_junction = omega arith;
            proper_ancestor = tested.yes! refl;
          };
      from = found.place;
      to = is ∙ ap (list_end labels) found.place;
      rises = omega (arith, list-takes labels at);
      inside = omega (arith, (found-fits formed found).inside);
    }
