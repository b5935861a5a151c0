-- Route (SCOPE 5.3): the check's number refuses; on an accepted set it answers as `accepted/specs/Route.antt` says.
use Rattle.std.specs.Prelude.{◌≡◌, List, ℕ, Result}
use Rattle.accepted.specs.declared.answers.FoundRoute.{FoundRoute}
use Rattle.accepted.specs.declared.answers.RouteRefusal.{RouteRefusal}
use Rattle.accepted.specs.Check.{Checked}
use Rattle.accepted.specs.Route.{RouteRefused, RouteAnswered}
use Rattle.accepted.specs.RouteAnswers.{route_number_of, route_time_of, route_energy_of, route_count_of, RouteCase}

module _ (net labels : List ℕ) (s t limit : ℕ) (before : List ℕ) (number time energy count : ℕ) (after : List ℕ) where
  -- The number, the values and the lent places (SCOPE 5.3, 4.1)
  pub data Routed : Type 0 where
    not_accepted : Checked net labels number → (number ≡ 0 → ⊥) → RouteRefused before number time energy count after number → Routed
    answered : Checked net labels 0 → RouteAnswered net s t limit before number time energy count after → Routed

module _ (net labels : List ℕ) (s t limit : ℕ) (before : List ℕ) (answer : Result FoundRoute RouteRefusal) (after : List ℕ) where
  -- The answer itself: what it gives, and that it is the case for it (SCOPE 5.3, 4.1)
  pub record RouteDone : Type 0 where
    pub gives :
        Routed net labels s t limit before
        (route_number_of answer) (route_time_of answer) (route_energy_of answer) (route_count_of answer) after
    pub case_is : RouteCase net labels answer
