-- The statements of the calls, passed on from an enum's number and values to the fields of a struct.
use mathlib.Core.Path.{◌≡◌}
use mathlib.Core.List.{List}
use Prim.Native.Nat.{ℕ}
use Rattle.std.specs.Prelude.{Result}
use Rattle.joins.specs.Answers.{Join, LimitedJoin}
use Rattle.accepted.specs.declared.answers.FoundRoute.{FoundRoute}
use Rattle.accepted.specs.declared.answers.RouteRefusal.{RouteRefusal}
use Rattle.accepted.specs.declared.answers.ListRefusal.{ListRefusal}
use Rattle.accepted.specs.RouteAnswers.{route_number_of, route_time_of, route_energy_of, route_count_of}
use Rattle.accepted.specs.ListAnswers.{list_number_of, list_count_of}
use Rattle.labels.specs.Route.{Routed, RouteDone}
use Rattle.labels.specs.List.{Listed, ListDone}

pub route-passed :
    {net labels before after : List ℕ} {s t limit number time energy count : ℕ} {answer : Result FoundRoute RouteRefusal} →
    RouteDone net labels s t limit before answer after →
    (number ≡ route_number_of answer) × (time ≡ route_time_of answer) × (energy ≡ route_energy_of answer) × (count ≡ route_count_of answer) →
    Routed net labels s t limit before number time energy count after
route-passed outcome same = rw (same.0, same.1, same.2, same.3) outcome.gives

pub list-passed :
    {net labels times_before energies_before times_after energies_after : List ℕ} {s t number count : ℕ} {answer : Result ℕ ListRefusal} →
    ListDone net labels s t times_before energies_before answer times_after energies_after →
    (number ≡ list_number_of answer) × (count ≡ list_count_of answer) →
    Listed net labels s t times_before energies_before number count times_after energies_after
list-passed outcome same = rw (same.0, same.1) outcome.gives

pub join-passed :
    {ts es us fs times_before energies_before times_after energies_after : List ℕ} {number count number' count' : ℕ} →
    Join ts es us fs times_before energies_before number count times_after energies_after →
    (number' ≡ number) × (count' ≡ count) →
    Join ts es us fs times_before energies_before number' count' times_after energies_after
join-passed outcome same = rw (same.0, same.1) outcome

pub sum_passed :
    {ts es us fs : List ℕ} {limit number time energy number' time' energy' : ℕ} →
    LimitedJoin ts es us fs limit number time energy →
    (number' ≡ number) × (time' ≡ time) × (energy' ≡ energy) →
    LimitedJoin ts es us fs limit number' time' energy'
sum_passed outcome same = rw (same.0, same.1, same.2) outcome
