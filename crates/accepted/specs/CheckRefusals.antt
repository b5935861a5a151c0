-- The number of each refusal of the check (SCOPE 4.2); 0 is the number of an accepted set.
use Rattle.std.specs.Prelude.{ℕ, Result, Ok, Err}
use Rattle.network.specs.NetworkRefusal as network
use Rattle.stored.specs.Refusal as labels
use Rattle.accepted.specs.declared.answers.CheckRefusal.{CheckRefusal}
use Rattle.accepted.specs.declared.answers.CheckRefusal.TheVariants as refusal

abbrev pub check_refusal_number : CheckRefusal → ℕ
check_refusal_number (refusal.Network refused) = network.refusal_number refused
check_refusal_number (refusal.Labels refused) = labels.refusal_number refused
check_refusal_number refusal.WrongList = 18

abbrev pub check_number_of : Result (Unit {0}) CheckRefusal → ℕ
check_number_of (Ok accepted) = 0
check_number_of (Err refused) = check_refusal_number refused
