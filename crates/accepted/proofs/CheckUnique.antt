-- The check has one number: no second outcome meets its statement.
use mathlib.Core.Path.{◌≡◌, sym, ◌∙◌}
use mathlib.Core.List.{List}
use Prim.Native.Nat.{ℕ}
use Rattle.std.specs.Prelude.{Result}
use Rattle.accepted.specs.declared.answers.CheckRefusal.{CheckRefusal}
use Rattle.accepted.specs.CheckRefusals.{check_number_of}
use Rattle.accepted.proofs.Refusals.{answer_told}
use Rattle.accepted.specs.Check.{Checked, network_refused, labels_refused, list_wrong, accepted}

pub check_unique : {net labels : List ℕ} {number other : ℕ} → Checked net labels number → Checked net labels other → number ≡ other
check_unique (network_refused n e) (network_refused m f) = e ∙ sym f
check_unique (network_refused n e) (labels_refused z m f) = absurd (n z)
check_unique (network_refused n e) (list_wrong z y w f) = absurd (n z)
check_unique (network_refused n e) (accepted z y w f) = absurd (n z)
check_unique (labels_refused z n e) (network_refused m f) = absurd (m z)
check_unique (labels_refused z n e) (labels_refused y m f) = e ∙ sym f
check_unique (labels_refused z n e) (list_wrong y x w f) = absurd (n x)
check_unique (labels_refused z n e) (accepted y x w f) = absurd (n x)
check_unique (list_wrong z y w e) (network_refused m f) = absurd (m z)
check_unique (list_wrong z y w e) (labels_refused x m f) = absurd (m y)
check_unique (list_wrong z y w e) (list_wrong x v u f) = e ∙ sym f
check_unique (list_wrong z y w e) (accepted x v u f) = absurd (w u)
check_unique (accepted z y w e) (network_refused m f) = absurd (m z)
check_unique (accepted z y w e) (labels_refused x m f) = absurd (m y)
check_unique (accepted z y w e) (list_wrong x v u f) = absurd (u w)
check_unique (accepted z y w e) (accepted x v u f) = e ∙ sym f

-- and no second answer of the function that makes it
pub check_answer_unique :
    {net labels : List ℕ} {answer answer' : Result (Unit {0}) CheckRefusal} →
    Checked net labels (check_number_of answer) → Checked net labels (check_number_of answer') → answer ≡ answer'
check_answer_unique {answer = answer} {answer' = answer'} done done' = answer_told answer answer' (check_unique done done')
