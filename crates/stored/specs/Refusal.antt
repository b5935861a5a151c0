-- Which number labels are refused by (SCOPE 4.2).
use Rattle.std.specs.Prelude.{Result, Ok, Err, ℕ}
use Rattle.stored.specs.declared.refusal.LabelRefusal.{LabelRefusal}
use Rattle.stored.specs.declared.refusal.LabelRefusal.TheVariants as refusal

abbrev pub refusal_number : LabelRefusal → ℕ
refusal_number refusal.Bytes = 11
refusal_number refusal.Mark = 12
refusal_number refusal.Version = 13
refusal_number refusal.Network = 14
refusal_number refusal.Parents = 15
refusal_number refusal.Road = 16
refusal_number refusal.Lists = 17

-- The number of a test: 0 where nothing is refused
abbrev pub number_of : {A : Type 0} → Result A LabelRefusal → ℕ
number_of (Ok passed) = 0
number_of (Err refused) = refusal_number refused
