-- The number and the count of Trade-off list's answer, zeros beside a refusal (SCOPE 4.1).
use Rattle.std.specs.Prelude.{List, ℕ, Result, Ok, Err}
use Rattle.accepted.specs.declared.answers.ListRefusal.{ListRefusal}
use Rattle.accepted.specs.declared.answers.ListRefusal.TheVariants as refusal
use Rattle.accepted.specs.Check.{Checked, CheckRefused}
use Rattle.accepted.specs.CheckRefusals.{check_refusal_number}

-- The number of a refusal (SCOPE 4.2)
abbrev pub list_refusal_number : ListRefusal → ℕ
list_refusal_number (refusal.NotAccepted refused) = check_refusal_number refused
list_refusal_number refusal.OffMap = 21
list_refusal_number refusal.NotConnected = 22
list_refusal_number refusal.NoRoom = 24

-- The number (SCOPE 4.1, 4.2)
abbrev pub list_number_of : Result ℕ ListRefusal → ℕ
list_number_of (Ok count) = 0
list_number_of (Err refused) = list_refusal_number refused

-- The count of the entries (SCOPE 5.4, 4.1)
abbrev pub list_count_of : Result ℕ ListRefusal → ℕ
list_count_of (Ok count) = count
list_count_of (Err refused) = 0

-- Which case an answer is (SCOPE 4.1): the check's refusal is `NotAccepted` and nothing else is
abbrev pub ListCase : List ℕ → List ℕ → Result ℕ ListRefusal → Type 0
ListCase net labels (Ok count) = Checked net labels 0
ListCase net labels (Err (refusal.NotAccepted refused)) = CheckRefused net labels (check_refusal_number refused)
ListCase net labels (Err refusal.OffMap) = Checked net labels 0
ListCase net labels (Err refusal.NotConnected) = Checked net labels 0
ListCase net labels (Err refusal.NoRoom) = Checked net labels 0
