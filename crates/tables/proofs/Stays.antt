-- What it takes that a part of the table stays. In this order: nothing was written; one number more was; two times after each other;
-- a lower part stays too.
use mathlib.Core.Path.{refl, ◌∙◌}
use mathlib.Core.List.{List}
use Prim.Native.Nat.{ℕ, ◌≤◌}
use native.Mathlib.Omega.{arith}
use lib.ListN.{set, length-set}
use lib.Seq.{get_or-set_other}
use Rattle.tables.specs.working.Layout.{StaysBelow}

pub stays_all : (end : ℕ) (table : List ℕ) → StaysBelow end table table
stays_all end table = record { one_length = refl; stays = λ i below. refl }

-- a number written at a place that is not below the end
pub stays_set : {end : ℕ} {before after : List ℕ} (i x : ℕ) → StaysBelow end before after → end ≤ i → StaysBelow end before (set after i x)
stays_set {end} {before} {after} i x kept behind =
    record {
      one_length = length-set after i x ∙ kept.one_length;
      stays = λ j below. get_or-set_other after i j x 0 (λ same. absurd (omega (arith, same))) ∙ kept.stays j below;
    }

pub stays_then : {end : ℕ} {first second third : List ℕ} → StaysBelow end first second → StaysBelow end second third → StaysBelow end first third
stays_then once twice =
    record {
      one_length = twice.one_length ∙ once.one_length;
      stays = λ i below. twice.stays i below ∙ once.stays i below;
    }

pub stays-lower : {end lower : ℕ} {before after : List ℕ} → lower ≤ end → StaysBelow end before after → StaysBelow lower before after
stays-lower less kept = record { one_length = kept.one_length; stays = λ i below. kept.stays i (omega arith) }
