-- The ways through the calls: misshapen or refused by the check, else what an accepted set answers.
-- In this order: the shape of a batch; Batch; which case an answer is; Route and Trade-off list; Show's part.
use mathlib.Core.Path.{◌≡◌, refl, sym, ◌∙◌}
use mathlib.Core.Bool.{false, false≢true}
use mathlib.Core.List.{List}
use Prim.Native.Nat.{ℕ, ◌-◌, ◌/◌, ◌%◌, ◌≤◌, ◌<◌}
use native.Mathlib.Omega.{arith}
use lib.ListN.{length}
use borrow.Author.Tests.{eq-eqb, ne_eqb, le-leb, lt-leb}
use Rattle.std.specs.Prelude.{Result, Ok, Err}
use Rattle.stored.specs.Stored.{list_place}
use Rattle.stored.proofs.Places.{list-takes}
use Rattle.std.specs.Prelude.{Option, unwrap_or}
use Rattle.std.specs.declared.option.Option.TheVariants.{Some, None}
use Rattle.files.specs.declared.show.Span.{Span}
use Rattle.files.specs.Shown.{Shows, nothing, bytes}
use Rattle.files.specs.working.Span.{ListSpan, SpanFound}
use Rattle.accepted.specs.declared.answers.CheckRefusal.{CheckRefusal}
use Rattle.accepted.specs.declared.answers.FoundRoute.{FoundRoute}
use Rattle.accepted.specs.declared.answers.RouteRefusal.{RouteRefusal}
use Rattle.accepted.specs.declared.answers.RouteRefusal.TheVariants as route
use Rattle.accepted.specs.declared.answers.ListRefusal.{ListRefusal}
use Rattle.accepted.specs.declared.answers.ListRefusal.TheVariants as list
use Rattle.accepted.specs.Check.{Checked, CheckRefused}
use Rattle.accepted.specs.CheckRefusals.{check_refusal_number, check_number_of}
use Rattle.accepted.specs.Route.{RouteAnswered}
use Rattle.accepted.specs.RouteAnswers.{route_number_of, route_time_of, route_energy_of, route_count_of, RouteCase}
use Rattle.accepted.specs.List.{ListAnswered}
use Rattle.accepted.specs.ListAnswers.{list_number_of, list_count_of, ListCase}
use Rattle.accepted.specs.working.Accepting.{Accepting}
use Rattle.accepted.specs.working.FromCheck.{route_from_check, list_from_check}
use Rattle.accepted.specs.working.Triples.{AnsweredTo, Triples}
use Rattle.accepted.proofs.Accepted.{check_passed}
use Rattle.accepted.proofs.CheckNumbers.{check_refused}
use Rattle.accepted.proofs.Refusals.{some_number}
use Rattle.labels.specs.Batch.{shape_number, BatchDone, misshapen, not_accepted, answered}
use Rattle.labels.specs.Route.{Routed, RouteDone}
use Rattle.labels.specs.List.{Listed, ListDone}
use Rattle.labels.specs.Part.{PartShown}

-- ---- The shape of a batch

module _ (queries answers : List ℕ) where
  no_triples : (length queries % 3 ≡ 0 → ⊥) → shape_number queries answers ≡ 31
  unfolding shape_number
  no_triples h = rw (ne_eqb (length queries % 3) 0 h)

  too_many : length queries % 3 ≡ 0 → 3072 < length queries → shape_number queries answers ≡ 31
  unfolding shape_number
  too_many h k = rw (eq-eqb (length queries % 3) 0 h, lt-leb (length queries) 3072 k)

  other-places : length queries % 3 ≡ 0 → length queries ≤ 3072 → (length answers ≡ length queries → ⊥) → shape_number queries answers ≡ 32
  unfolding shape_number
  other-places h k d = rw (eq-eqb (length queries % 3) 0 h, le-leb (length queries) 3072 k, ne_eqb (length answers) (length queries) d)

  shaped : length queries % 3 ≡ 0 → length queries ≤ 3072 → length answers ≡ length queries → shape_number queries answers ≡ 0
  unfolding shape_number
  shaped h k e = rw (eq-eqb (length queries % 3) 0 h, le-leb (length queries) 3072 k, eq-eqb (length answers) (length queries) e)

-- a batch that passed its shape is whole triples
pub batch_triples : {queries answers : List ℕ} → length queries % 3 ≡ 0 → length answers ≡ length queries → Triples queries answers (length queries / 3)
batch_triples h e = record { whole = omega arith; places = e }

-- ---- Batch

module _ {net labels queries before : List ℕ} where
  wrong_shape : (number : ℕ) → shape_number queries before ≡ number → (number ≡ 0 → ⊥) → BatchDone net labels queries before number before
  wrong_shape number e n = misshapen (λ z. n (sym e ∙ z)) (sym e) refl

  pub done_no_triples : (length queries % 3 ≡ 0 → ⊥) → BatchDone net labels queries before 31 before
  done_no_triples h = wrong_shape 31 (no_triples queries before h) (λ z. omega arith)

  pub done_too_many : length queries % 3 ≡ 0 → 3072 < length queries → BatchDone net labels queries before 31 before
  done_too_many h k = wrong_shape 31 (too_many queries before h k) (λ z. omega arith)

  pub done_other_places :
      length queries % 3 ≡ 0 → length queries ≤ 3072 → (length before ≡ length queries → ⊥) → BatchDone net labels queries before 32 before
  done_other_places h k d = wrong_shape 32 (other-places queries before h k d) (λ z. omega arith)

  module _ (h : length queries % 3 ≡ 0) (k : length queries ≤ 3072) (e : length before ≡ length queries) where
    pub done_not_accepted :
        {depths tables : List ℕ} {number : ℕ} → Accepting net labels number depths tables → (number ≡ 0 → ⊥) → BatchDone net labels queries before number before
    done_not_accepted accepting some = not_accepted (shaped queries before h k e) accepting.checked some refl

    pub done_answered :
        {depths tables after : List ℕ} {number : ℕ} →
        Accepting net labels number depths tables → number ≡ 0 →
        AnsweredTo net queries before after (length queries / 3) → BatchDone net labels queries before 0 after
    done_answered accepting none all =
        answered (shaped queries before h k e) (check_passed accepting none) refl all.one_length (λ i below. all.answered i (omega arith))

-- ---- Which case an answer is

module _ {net labels : List ℕ} (passed : Checked net labels 0) where
  -- an answer that is not the check's is one of an accepted set
  route_case : (answer : Result FoundRoute RouteRefusal) → route_from_check answer ≡ false → RouteCase net labels answer
  route_case (Ok found) own = passed
  route_case (Err (route.NotAccepted refused)) own = absurd (false≢true (sym own))
  route_case (Err (route.NoAnswer why)) own = passed
  route_case (Err route.NoRoom) own = passed

  list_case : (answer : Result ℕ ListRefusal) → list_from_check answer ≡ false → ListCase net labels answer
  list_case (Ok count) own = passed
  list_case (Err (list.NotAccepted refused)) own = absurd (false≢true (sym own))
  list_case (Err list.OffMap) own = passed
  list_case (Err list.NotConnected) own = passed
  list_case (Err list.NoRoom) own = passed

-- ---- Route and Trade-off list

module _ {net labels depths tables : List ℕ} {told : Result (Unit {0}) CheckRefusal} (accepting : Accepting net labels (check_number_of told) depths tables) where
  module _ {refused : CheckRefusal} (is : told ≡ Err refused) where
    -- a set that the check refuses
    not_passed : CheckRefused net labels (check_refusal_number refused)
    not_passed = check_refused (rw is at accepting.checked) (some_number refused)

    pub route_not_accepted : {before : List ℕ} {s t limit : ℕ} → RouteDone net labels s t limit before (Err (route.NotAccepted refused)) before
    route_not_accepted =
        record {
          gives =
              Routed.not_accepted (rw is at accepting.checked) (some_number refused)
              (record { number_is = refl; zero_time = refl; zero_energy = refl; no_count = refl; stays = refl });
          case_is = not_passed;
        }

    pub list_not_accepted : {times energies : List ℕ} {s t : ℕ} → ListDone net labels s t times energies (Err (list.NotAccepted refused)) times energies
    list_not_accepted =
        record {
          gives =
              Listed.not_accepted (rw is at accepting.checked) (some_number refused)
              (record { number_is = refl; no_count = refl; times_stay = refl; energies_stay = refl });
          case_is = not_passed;
        }

  module _ {accepted : Unit {0}} (is : told ≡ Ok accepted) where
    pub route-answered :
        {before after : List ℕ} {s t limit : ℕ} {answer : Result FoundRoute RouteRefusal} →
        RouteAnswered net s t limit before (route_number_of answer) (route_time_of answer) (route_energy_of answer) (route_count_of answer) after →
        route_from_check answer ≡ false → RouteDone net labels s t limit before answer after
    route-answered {answer = answer} gives own =
        let passed : Checked net labels 0 = rw is at accepting.checked in
        record { gives = Routed.answered passed gives; case_is = route_case passed answer own }

    pub list-answered :
        {times_before energies_before times_after energies_after : List ℕ} {s t : ℕ} {answer : Result ℕ ListRefusal} →
        ListAnswered net s t times_before energies_before (list_number_of answer) (list_count_of answer) times_after energies_after →
        list_from_check answer ≡ false → ListDone net labels s t times_before energies_before answer times_after energies_after
    list-answered {answer = answer} gives own =
        let passed : Checked net labels 0 = rw is at accepting.checked in
        record { gives = Listed.answered passed gives; case_is = list_case passed answer own }

-- ---- Show's part

-- the list that is found, as a place and a length
pub part_of_list : {labels : List ℕ} {v u : ℕ} {span : Span} → ListSpan labels v u span → PartShown labels v u span.start (span.end - span.start)
part_of_list {labels} {v} {u} {span} found =
    record {
      shown = bytes found.shows (rw (found.from, found.to) refl);
      inside = omega (arith, found.rises, found.inside);
      place = λ some. found.from;
      empty = λ none-shown. absurd (omega (arith, found.from, found.to, list-takes labels (list_place labels v u)));
    }

-- where there is none, the empty part at 0
pub no_part : {labels : List ℕ} {v u : ℕ} → (Shows labels v u → ⊥) → PartShown labels v u 0 0
no_part none = record { shown = nothing none refl; inside = omega arith; place = λ some. absurd (omega arith); empty = λ none-shown. refl }

-- the span that is found, or none
pub part_shown :
    {labels : List ℕ} {v u : ℕ} (r : Option Span) {span : Span} → SpanFound labels v u r → span ≡ unwrap_or r (record { start = 0; end = 0 }) →
    PartShown labels v u span.start (span.end - span.start)
part_shown None found e = rw e (no_part found)
part_shown (Some _) found e = rw e (part_of_list found)
