-- The number and the values of Route's answer, zeros beside a refusal (SCOPE 4.1).
use Rattle.std.specs.Prelude.{List, ℕ, Result, Ok, Err}
use Rattle.query.specs.NoAnswers.{number_without}
use Rattle.accepted.specs.declared.answers.FoundRoute.{FoundRoute}
use Rattle.accepted.specs.declared.answers.RouteRefusal.{RouteRefusal}
use Rattle.accepted.specs.declared.answers.RouteRefusal.TheVariants as refusal
use Rattle.accepted.specs.Check.{Checked, CheckRefused}
use Rattle.accepted.specs.CheckRefusals.{check_refusal_number}

-- The number of a refusal (SCOPE 4.2)
abbrev pub route_refusal_number : RouteRefusal → ℕ
route_refusal_number (refusal.NotAccepted refused) = check_refusal_number refused
route_refusal_number (refusal.NoAnswer why) = number_without why
route_refusal_number refusal.NoRoom = 24

-- The number (SCOPE 4.1, 4.2)
abbrev pub route_number_of : Result FoundRoute RouteRefusal → ℕ
route_number_of (Ok found) = 0
route_number_of (Err refused) = route_refusal_number refused

-- The time of the best pair (SCOPE 5.3, 4.1)
abbrev pub route_time_of : Result FoundRoute RouteRefusal → ℕ
route_time_of (Ok found) = found.pair.time.0
route_time_of (Err refused) = 0

-- The energy of the best pair (SCOPE 5.3, 4.1)
abbrev pub route_energy_of : Result FoundRoute RouteRefusal → ℕ
route_energy_of (Ok found) = found.pair.energy.0
route_energy_of (Err refused) = 0

-- The count of the route's junctions (SCOPE 5.3, 4.1)
abbrev pub route_count_of : Result FoundRoute RouteRefusal → ℕ
route_count_of (Ok found) = found.count
route_count_of (Err refused) = 0

-- Which case an answer is (SCOPE 4.1): the check's refusal is `NotAccepted` and nothing else is
abbrev pub RouteCase : List ℕ → List ℕ → Result FoundRoute RouteRefusal → Type 0
RouteCase net labels (Ok found) = Checked net labels 0
RouteCase net labels (Err (refusal.NotAccepted refused)) = CheckRefused net labels (check_refusal_number refused)
RouteCase net labels (Err (refusal.NoAnswer why)) = Checked net labels 0
RouteCase net labels (Err refusal.NoRoom) = Checked net labels 0
