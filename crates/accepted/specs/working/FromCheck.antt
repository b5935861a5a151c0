-- Whether an answer is the check's refusal: what follows the check never gives it.
use Rattle.std.specs.Prelude.{Bool, true, false, ℕ, Result, Ok, Err}
use Rattle.accepted.specs.declared.answers.FoundRoute.{FoundRoute}
use Rattle.accepted.specs.declared.answers.RouteRefusal.{RouteRefusal}
use Rattle.accepted.specs.declared.answers.RouteRefusal.TheVariants as route
use Rattle.accepted.specs.declared.answers.ListRefusal.{ListRefusal}
use Rattle.accepted.specs.declared.answers.ListRefusal.TheVariants as list

-- Of Route's answers
abbrev pub route_from_check : Result FoundRoute RouteRefusal → Bool
route_from_check (Ok found) = false
route_from_check (Err (route.NotAccepted refused)) = true
route_from_check (Err (route.NoAnswer why)) = false
route_from_check (Err route.NoRoom) = false

-- Of Trade-off list's
abbrev pub list_from_check : Result ℕ ListRefusal → Bool
list_from_check (Ok count) = false
list_from_check (Err (list.NotAccepted refused)) = true
list_from_check (Err list.OffMap) = false
list_from_check (Err list.NotConnected) = false
list_from_check (Err list.NoRoom) = false
