-- Every refusal has a number of its own, and none has 0.
use mathlib.Core.Path.{◌≡◌}
use native.Mathlib.Omega.{arith}
use Rattle.stored.specs.declared.refusal.LabelRefusal.{LabelRefusal}
use Rattle.stored.specs.declared.refusal.LabelRefusal.TheVariants as refusal
use Rattle.stored.specs.Refusal.{refusal_number}

pub refuses : (r : LabelRefusal) → refusal_number r ≡ 0 → ⊥
refuses refusal.Bytes e = omega arith
refuses refusal.Mark e = omega arith
refuses refusal.Version e = omega arith
refuses refusal.Network e = omega arith
refuses refusal.Parents e = omega arith
refuses refusal.Road e = omega arith
refuses refusal.Lists e = omega arith
