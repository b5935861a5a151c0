-- Route has one outcome: its number, the pair, the count, and every lent place.
use mathlib.Core.Path.{◌≡◌, refl, sym, ap, ◌∙◌}
use mathlib.Core.Bool.{cond}
use mathlib.Core.List.{List}
use Prim.Native.Nat.{ℕ, ◌≤◌, ◌<◌}
use native.Mathlib.Omega.{arith}
use lib.Dec.{leb, eqb}
use lib.ListN.{length}
use borrow.Author.Tests.{ne_eqb, le-leb}
use Rattle.std.specs.Prelude.{Result, Ok, Err}
use Rattle.paths.specs.Weights.{pair}
use Rattle.paths.specs.Route.{FirstRoute}
use Rattle.paths.proofs.Route.{first_route_unique}
use Rattle.refusals.specs.Lent.{filled}
use Rattle.network.specs.NetworkFile.{network_of}
use Rattle.query.specs.Answers.{Answers}
use Rattle.query.proofs.AnswersUnique.{answers_unique}
use Rattle.query.specs.declared.NoAnswer.TheVariants as without
use Rattle.accepted.specs.declared.answers.CheckRefusal.{CheckRefusal}
use Rattle.accepted.specs.declared.answers.FoundRoute.{FoundRoute}
use Rattle.accepted.specs.declared.answers.RouteRefusal.{RouteRefusal}
use Rattle.accepted.specs.declared.answers.RouteRefusal.TheVariants as case
use Rattle.accepted.specs.CheckRefusals.{check_refusal_number}
use Rattle.accepted.specs.RouteAnswers.{route_number_of, route_time_of, route_energy_of, route_count_of, RouteCase}
use Rattle.accepted.specs.Route.{RouteRefused, RouteAnswered, no_answer, no_room, routed}
use Rattle.accepted.proofs.CheckUnique.{check_unique}
use Rattle.accepted.proofs.Refusals.{refusal_of, refusal_rebuilt, some_number}
use Rattle.labels.specs.Route.{Routed, not_accepted, answered, RouteDone}

pub record SameRoute (number time energy count : ℕ) (after : List ℕ) (number' time' energy' count' : ℕ) (after' : List ℕ) : Type 0 where
  pub same_number : number ≡ number'
  pub same-time : time ≡ time'
  pub same-energy : energy ≡ energy'
  pub same_count : count ≡ count'
  pub same-places : after ≡ after'

module _ {net : List ℕ} {s t limit time energy time' energy' : ℕ} {route route' : List ℕ} where
  -- the best pairs of one query have one first route
  routes_same :
      Answers net s t limit 0 time energy → Answers net s t limit 0 time' energy' →
      FirstRoute (network_of net) s t (pair time energy) route → FirstRoute (network_of net) s t (pair time' energy') route' → route ≡ route'
  routes_same answer answer' first first' =
      let one = answers_unique net s t limit answer answer' in
      first_route_unique (rw (one.time_is, one.energy_is) at first) first'

  -- so there is room for both or for neither
  one_room :
      {room : ℕ} → Answers net s t limit 0 time energy → Answers net s t limit 0 time' energy' →
      FirstRoute (network_of net) s t (pair time energy) route → FirstRoute (network_of net) s t (pair time' energy') route' →
      room < length route → length route' ≤ room → ⊥
  one_room answer answer' first first' short fits = omega (arith, ap length (routes_same answer answer' first first'))

module _ {before : List ℕ} {number time energy count number' time' energy' count' : ℕ} {after after' : List ℕ} where
  -- two refusals by one number are the same
  refusals_same :
      {by by' : ℕ} → by ≡ by' → RouteRefused before number time energy count after by → RouteRefused before number' time' energy' count' after' by' →
      SameRoute number time energy count after number' time' energy' count' after'
  refusals_same e r r' =
      record {
        same_number = r.number_is ∙ e ∙ sym r'.number_is;
        same-time = r.zero_time ∙ sym r'.zero_time;
        same-energy = r.zero_energy ∙ sym r'.zero_energy;
        same_count = r.no_count ∙ sym r'.no_count;
        same-places = r.stays ∙ sym r'.stays;
      }

  module _ {net : List ℕ} {s t limit : ℕ} where
    -- No second answer meets what is stated of an accepted set
    pub route_accepted_unique :
        RouteAnswered net s t limit before number time energy count after →
        RouteAnswered net s t limit before number' time' energy' count' after' →
        SameRoute number time energy count after number' time' energy' count' after'
    route_accepted_unique (no_answer a k n f) (no_answer a' k' n' f') =
        let one = answers_unique net s t limit a a' in
        record { same_number = one.number_is; same-time = one.time_is; same-energy = one.energy_is; same_count = n ∙ sym n'; same-places = f ∙ sym f' }
    route_accepted_unique (no_answer a k n f) (no_room a' first short refused) = absurd (k (answers_unique net s t limit a a').number_is)
    route_accepted_unique (no_answer a k n f) (routed a' first fits e n' f') = absurd (k (answers_unique net s t limit a a').number_is)
    route_accepted_unique (no_room a first short refused) (no_answer a' k n f) = absurd (k (answers_unique net s t limit a' a).number_is)
    route_accepted_unique (no_room a first short refused) (no_room a' first' short' refused') = refusals_same refl refused refused'
    route_accepted_unique (no_room a first short refused) (routed a' first' fits e n f) = absurd (one_room a a' first first' short fits)
    route_accepted_unique (routed a first fits e n f) (no_answer a' k n' f') = absurd (k (answers_unique net s t limit a' a).number_is)
    route_accepted_unique (routed a first fits e n f) (no_room a' first' short refused) = absurd (one_room a' a first' first short fits)
    route_accepted_unique (routed a first fits e n f) (routed a' first' fits' e' n' f') =
        let one = answers_unique net s t limit a a' in
        let same = routes_same a a' first first' in
        record {
          same_number = e ∙ sym e';
          same-time = one.time_is;
          same-energy = one.energy_is;
          same_count = n ∙ ap length same ∙ sym n';
          same-places = f ∙ ap (filled before) same ∙ sym f';
        }

    -- No second outcome meets Route's statement
    pub route_unique :
        {labels : List ℕ} →
        Routed net labels s t limit before number time energy count after →
        Routed net labels s t limit before number' time' energy' count' after' →
        SameRoute number time energy count after number' time' energy' count' after'
    route_unique (not_accepted c k r) (not_accepted c' k' r') = refusals_same (check_unique c c') r r'
    route_unique (not_accepted c k r) (answered c' a) = absurd (k (check_unique c c'))
    route_unique (answered c a) (not_accepted c' k r) = absurd (k (check_unique c' c))
    route_unique (answered c a) (answered c' a') = route_accepted_unique a a'

-- ---- The answer itself

-- the answer that has a number and values: 0 a route, up to 18 the check's refusal
rebuilt : ℕ → ℕ → ℕ → ℕ → Result FoundRoute RouteRefusal
rebuilt number time energy count =
    cond (eqb number 0) (Ok (record { pair = record { time = record { 0 = time }; energy = record { 0 = energy } }; count = count }))
    (cond (leb number 18) (Err (case.NotAccepted (refusal_of number)))
    (cond (eqb number 21) (Err (case.NoAnswer without.OffMap))
    (cond (eqb number 22) (Err (case.NoAnswer without.NotConnected))
    (cond (eqb number 23) (Err (case.NoAnswer without.OverLimit)) (Err case.NoRoom)))))

-- an answer is the one that has its number and values
answer_rebuilt :
    (net labels : List ℕ) (answer : Result FoundRoute RouteRefusal) → RouteCase net labels answer →
    answer ≡ rebuilt (route_number_of answer) (route_time_of answer) (route_energy_of answer) (route_count_of answer)
unfolding rebuilt
answer_rebuilt net labels (Ok found) is = refl
answer_rebuilt net labels (Err (case.NotAccepted refused)) is =
    rw (ne_eqb (check_refusal_number refused) 0 (some_number refused), le-leb (check_refusal_number refused) 18 is.at_most)
    (ap (λ (r : CheckRefusal). Err (case.NotAccepted r)) (refusal_rebuilt refused))
answer_rebuilt net labels (Err (case.NoAnswer without.OffMap)) is = refl
answer_rebuilt net labels (Err (case.NoAnswer without.NotConnected)) is = refl
answer_rebuilt net labels (Err (case.NoAnswer without.OverLimit)) is = refl
answer_rebuilt net labels (Err case.NoRoom) is = refl

-- No second answer meets Route's statement
pub route_answer_unique :
    {net labels before after after' : List ℕ} {s t limit : ℕ} {answer answer' : Result FoundRoute RouteRefusal} →
    RouteDone net labels s t limit before answer after → RouteDone net labels s t limit before answer' after' →
    (answer ≡ answer') × (after ≡ after')
route_answer_unique {net} {labels} {answer = answer} {answer' = answer'} done done' =
    let same = route_unique done.gives done'.gives in (
      answer_rebuilt net labels answer done.case_is
          ∙ rw (same.same_number, same.same-time, same.same-energy, same.same_count) (sym (answer_rebuilt net labels answer' done'.case_is)),
      same.same-places,
    )
