-- What Route answers on an accepted set, way by way: no answer, no room, written.
-- In this order: the first route put or not; the answers.
use mathlib.Core.Path.{◌≡◌, refl, sym}
use mathlib.Core.List.{List}
use Prim.Native.Nat.{ℕ, ◌≤◌, ◌<◌}
use lib.ListN.{length, take}
use lib.Seq.{length-take-le}
use Rattle.std.specs.Prelude.{Result, Ok}
use Rattle.paths.specs.declared.pair.Pair.{Pair}
use Rattle.paths.specs.Weights.{pair}
use Rattle.refusals.specs.Lent.{filled}
use Rattle.query.specs.declared.NoAnswer.{NoAnswer}
use Rattle.query.specs.Answers.{Answers}
use Rattle.query.specs.working.AnswerValues.{number_of, time_of, energy_of}
use Rattle.routes.specs.working.Written.{RouteFound}
use Rattle.accepted.specs.Route.{RouteAnswered, no_room, routed}
use Rattle.accepted.specs.working.RoutePut.{RoutePut, too_long, put}
use Rattle.accepted.proofs.FoundPair.{found-zero}

-- ---- The first route

module _ {net before places : List ℕ} {s t best_time best_energy count : ℕ} (route : RouteFound net s t (pair best_time best_energy) count places) where
  pub route_too_long : length before < count → RoutePut net s t best_time best_energy before 24 0 0 0 before
  route_too_long short =
      too_long route.first (rw (length-take-le count places route.room) short)
      (record { number_is = refl; zero_time = refl; zero_energy = refl; no_count = refl; stays = refl })

  pub route_put :
      {after : List ℕ} → count ≤ length before → after ≡ filled before (take count places) →
      RoutePut net s t best_time best_energy before 0 best_time best_energy count after
  route_put room now =
      let long = length-take-le count places route.room in
      put route.first (rw long room) refl refl refl (sym long) now

-- ---- The answers

module _ {net before : List ℕ} {s t limit : ℕ} {a : Result Pair NoAnswer} (answers : Answers net s t limit (number_of a) (time_of a) (energy_of a)) where
  -- a found pair is answered by what became of its route
  pub answered-found :
      {best : Pair} {number time energy count : ℕ} {after : List ℕ} →
      a ≡ Ok best →
      RoutePut net s t best.time.0 best.energy.0 before number time energy count after →
      RouteAnswered net s t limit before number time energy count after
  answered-found e (too_long first short refused) = no_room (found-zero e answers) first short refused
  answered-found e (put {route} first room n f g c now) = routed {route = route} (rw (f, g) (found-zero e answers)) (rw (f, g) first) room n c now
