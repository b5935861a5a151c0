-- The junctions below one move on by one list each.
use mathlib.Core.Path.{◌≡◌, sym, ap, ◌∙◌}
use mathlib.Core.List.{List}
use Prim.Native.Nat.{ℕ, ◌+◌, ◌≤◌, ◌<◌}
use native.Mathlib.Decide.{ℕ_discrete}
use native.Mathlib.Omega.{arith}
use lib.ListN.{length, get_or, set, length-set}
use lib.Seq.{get_or-set_same, get_or-set_other}
use Rattle.network.specs.NetworkFile.{junctions_of}
use Rattle.forest.specs.LabelFile.{list_end}
use Rattle.stored.specs.working.Formed.{ListFits, Formed}
use Rattle.stored.proofs.Places.{list-takes}
use Rattle.stored.proofs.Passed.{below_on_map, stored-fits}
use Rattle.agree.specs.working.Agreeing.{PlacesFor}
use Rattle.exact.specs.working.Sweep.{BlockOf}

-- The first k junctions of the block have moved
pub record Moving (labels block : List ℕ) (k : ℕ) (before now : List ℕ) : Type 0 where
  pub one_length : length now ≡ 1024
  pub moved : (j : ℕ) → j < k → get_or now (get_or block j 0) 0 ≡ list_end labels (get_or before (get_or block j 0) 0)
  pub unmoved : (v : ℕ) → ((j : ℕ) → j < k → get_or block j 0 ≡ v → ⊥) → get_or now v 0 ≡ get_or before v 0

module _ {labels block : List ℕ} {u k : ℕ} {before now : List ℕ} (formed : Formed labels) (block_of : BlockOf labels u block)
    (places : PlacesFor labels u before) (moving : Moving labels block k before now) (more : k < length block) where
  -- the next junction
  pub here_on_map : get_or block k 0 < junctions_of labels
  here_on_map = below_on_map labels (block_of.below k more)

  unmoved_yet : get_or now (get_or block k 0) 0 ≡ get_or before (get_or block k 0) 0
  unmoved_yet = moving.unmoved (get_or block k 0) (λ j to e. omega (arith, block_of.once j k (omega arith) more e))

  -- its list for u is one of the file's
  fits : ListFits labels (get_or now (get_or block k 0) 0)
  fits = rw (unmoved_yet ∙ places.below (get_or block k 0) here_on_map (block_of.below k more)) (stored-fits formed (block_of.below k more))

  pub place_inside : get_or now (get_or block k 0) 0 + 2 ≤ length labels
  place_inside = omega (arith, list-takes labels (get_or now (get_or block k 0) 0), fits.inside)

  module _ {next : ℕ} (next_is : next ≡ list_end labels (get_or now (get_or block k 0) 0)) where
    pub next_inside : next ≤ length labels
    next_inside = omega (arith, fits.inside, next_is)

    -- one more has moved
    pub moving_more : Moving labels block (k + 1) before (set now (get_or block k 0) next)
    moving_more =
        record {
          one_length = length-set now (get_or block k 0) next ∙ moving.one_length;
          moved = λ j to. pick j to (ℕ_discrete j k);
          unmoved =
              λ v apart.
              get_or-set_other now (get_or block k 0) v next 0 (λ e. apart k (omega arith) (sym e)) ∙
              moving.unmoved v (λ j to. apart j (omega arith));
        }
      where
        inside : get_or block k 0 < length now
        inside = omega (arith, here_on_map, formed.parents.few_junctions, moving.one_length)

        pick :
            (j : ℕ) → j < k + 1 → Dec (j ≡ k) →
            get_or (set now (get_or block k 0) next) (get_or block j 0) 0 ≡ list_end labels (get_or before (get_or block j 0) 0)
        pick j to (yes e) =
            ap (λ i. get_or (set now (get_or block k 0) next) (get_or block i 0) 0) e ∙ get_or-set_same now (get_or block k 0) next 0 inside ∙ next_is ∙
            ap (list_end labels) (unmoved_yet ∙ ap (λ i. get_or before (get_or block i 0) 0) (sym e))
        pick j to (no apart) =
            get_or-set_other now (get_or block k 0) (get_or block j 0) next 0 (λ e. apart (block_of.once j k (omega arith) more e)) ∙
            moving.moved j (omega arith)
