-- Trade-off list (SCOPE 5.4): the check's number refuses; on an accepted set it answers as `accepted/specs/List.antt` says.
use Rattle.std.specs.Prelude.{◌≡◌, List, ℕ, Result}
use Rattle.refusals.specs.Lent.{ListRefused}
use Rattle.accepted.specs.declared.answers.ListRefusal.{ListRefusal}
use Rattle.accepted.specs.Check.{Checked}
use Rattle.accepted.specs.List.{ListAnswered}
use Rattle.accepted.specs.ListAnswers.{list_number_of, list_count_of, ListCase}

module _ (net labels : List ℕ) (s t : ℕ) (times_before energies_before : List ℕ) (number count : ℕ) (times_after energies_after : List ℕ) where
  -- The number, the count and the lent places (SCOPE 5.4, 4.1)
  pub data Listed : Type 0 where
    not_accepted :
        Checked net labels number → (number ≡ 0 → ⊥) →
        ListRefused times_before energies_before number count times_after energies_after number → Listed
    answered : Checked net labels 0 → ListAnswered net s t times_before energies_before number count times_after energies_after → Listed

module _ (net labels : List ℕ) (s t : ℕ) (times_before energies_before : List ℕ) (answer : Result ℕ ListRefusal) (times_after energies_after : List ℕ) where
  -- The answer itself: what it gives, and that it is the case for it (SCOPE 5.4, 4.1)
  pub record ListDone : Type 0 where
    pub gives : Listed net labels s t times_before energies_before (list_number_of answer) (list_count_of answer) times_after energies_after
    pub case_is : ListCase net labels answer
