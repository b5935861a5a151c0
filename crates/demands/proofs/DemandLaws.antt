-- What demand 2 stands on: which sets are accepted, and what each number of a call means on an accepted set.
-- In this order: accepted sets; one triple; an answer and its number; batches; routes; lists.
use mathlib.Core.Path.{◌≡◌, refl, sym, ap, ap₂, ◌∙◌, subst}
use mathlib.Core.Logic.{◌↔◌, ◌⊎◌, inl, inr, ⊎_elim}
use mathlib.Core.List.Memᴰ
use mathlib.Core.List.{List, [], ◌∷◌}
use Prim.Native.Nat.{ℕ, zero, suc, ◌+◌, ◌*◌, ◌≤◌, ◌<◌, min}
use native.Mathlib.Decide.{dec_lt}
use native.Mathlib.Omega.{arith}
use lib.ListN.{length, get_or}
use Rattle.paths.specs.Weights.{pair}
use Rattle.paths.specs.Network.{Walk}
use Rattle.paths.specs.TradeOff.{IsTradeOff}
use Rattle.paths.specs.Answer.{Best, Over, Apart}
use Rattle.paths.specs.Route.{FirstRoute}
use Rattle.paths.proofs.Figures.{number_lawful}
use Rattle.paths.proofs.Unique.{trade_off_unique}
use Rattle.paths.proofs.Existence.{trade_off_exists}
use Rattle.paths.proofs.Answers.{Outcome, outcome}
use Rattle.paths.proofs.Route.{first_route_unique}
use Rattle.refusals.specs.Lent.{filled}
use Rattle.lists.specs.Entries.{Weight, times, energies}
use Rattle.network.specs.Versions.{version_one}
use Rattle.network.specs.NetworkFile.{network_of, junctions_of}
use Rattle.network.specs.NetworkNumber.{net_number}
use Rattle.network.proofs.Arcs.{network_finite}
use Rattle.network.proofs.Accepted.{network-fits}
use Rattle.files.specs.LabelForm.{labels_number}
use Rattle.stored.specs.working.Formed.{FilesFit}
use Rattle.files.proofs.FormLaws.{files_fit}
use Rattle.stored.specs.Right.{EveryListRight}
use Rattle.stored.proofs.Passed.{lists-ordered}
use Rattle.query.specs.Answers.{Answers, off_map, not_connected, over_limit, found}
use Rattle.query.proofs.AnswersUnique.{answers_unique}
use Rattle.accepted.specs.Check.{Checked}
use Rattle.accepted.specs.Batch.{TripleAnswered}
use Rattle.accepted.specs.Route.{RouteAnswered}
use Rattle.accepted.specs.List.{ListAnswered}
use Rattle.accepted.proofs.Accepted.{zero_accepts, accepted-zero}
use Rattle.accepted.proofs.CheckUnique.{check_unique}
use Rattle.labels.specs.Batch.{shape_number, BatchDone, misshapen, not_accepted, answered}
use Rattle.labels.specs.Route.{Routed}
use Rattle.labels.specs.List.{Listed}
use Rattle.demands.specs.Demands.{Complete, Gives}

-- ---- Accepted sets

-- complete lists are right: a well-formed list rises
complete-right : {net labels : List ℕ} → FilesFit net labels → Complete net labels → EveryListRight net labels
complete-right beside complete =
    record {
      right = λ above.
          record {
            rising = (lists-ordered beside).rises above;
            real = λ {p} m.
                let path = complete.real above p m in
                record { walk = path.0; weighs = path.1; unbeaten = complete.none_beaten above p m };
            complete = λ {p} line. complete.none_absent above p line;
          };
    }

-- and back
right-complete : {net labels : List ℕ} → EveryListRight net labels → Complete net labels
right-complete every =
    record {
      real = λ above p m. let line = (every.right above).real m in (line.walk, line.weighs);
      none_beaten = λ above p m. ((every.right above).real m).unbeaten;
      none_absent = λ above p line. (every.right above).complete line;
    }

pub accepted-complete :
    {net labels : List ℕ} {number : ℕ} → net_number version_one net ≡ 0 → labels_number version_one net labels ≡ 0 → Checked net labels number → (number ≡ 0) ↔ Complete net labels
accepted-complete {net} {labels} network form check = (
  (λ z. right-complete (zero_accepts check z).every_list_right),
  λ complete.
      check_unique check
      (accepted-zero (record {
        network_passes = network;
        form_passes = form;
        every_list_right = complete-right (files_fit version_one labels (network-fits version_one net network) form) complete;
      })),
)

-- ---- One triple

-- one triple and three places have the right shape
one_shape : (s t limit : ℕ) → shape_number (s ∷ (t ∷ (limit ∷ []))) (0 ∷ (0 ∷ (0 ∷ []))) ≡ 0
unfolding shape_number
one_shape s t limit = refl

-- What Batch answers to one triple is the answer of its definition
module _ {net labels : List ℕ} {s t limit number time energy : ℕ} where
  pub given_answer : Gives net labels s t limit number time energy → Answers net s t limit number time energy
  given_answer (misshapen n e f) = absurd (n (one_shape s t limit))
  given_answer (not_accepted z c k f) = absurd (k refl)
  given_answer (answered z c e l g) = g 0 (omega arith)

  pub answer_given : Checked net labels 0 → Answers net s t limit number time energy → Gives net labels s t limit number time energy
  answer_given c a = answered (one_shape s t limit) c refl refl (λ i h. only i h)
    where
      only : (i : ℕ) → 3 * i < 3 → TripleAnswered net (s ∷ (t ∷ (limit ∷ []))) (number ∷ (time ∷ (energy ∷ []))) i
      only zero h = a
      only (suc i) h = absurd (omega arith)

  pub gives-answers : Checked net labels 0 → Gives net labels s t limit number time energy ↔ Answers net s t limit number time energy
  gives-answers c = (given_answer, answer_given c)

-- ---- An answer

pub answer_best :
    {net : List ℕ} {s t limit number time energy : ℕ} → Answers net s t limit number time energy → number ≡ 0 →
    (s < junctions_of net) × (t < junctions_of net) × Best (network_of net) s t limit (pair time energy)
answer_best (off_map off e f g) z = absurd (omega arith)
answer_best (not_connected h k none e f g) z = absurd (omega arith)
answer_best (over_limit h k out e f g) z = absurd (omega arith)
answer_best (found h k best e) z = (h, k, best)

pub gives-best :
    {net labels : List ℕ} {s t limit time energy : ℕ} → Checked net labels 0 →
    Gives net labels s t limit 0 time energy ↔ ((s < junctions_of net) × (t < junctions_of net) × Best (network_of net) s t limit (pair time energy))
gives-best check = ((λ gives. answer_best (given_answer gives) refl), λ w. answer_given check (found w.0 w.1 w.2 refl))

-- any three numbers are answered
pub some_answer : {net labels : List ℕ} → Checked net labels 0 → (s t limit : ℕ) → (number : ℕ) × (time : ℕ) × (energy : ℕ) × Gives net labels s t limit number time energy
some_answer {net} {labels} check s t limit = pick (dec_lt s (junctions_of net)) (dec_lt t (junctions_of net)) (outcome number_lawful (trade_off_exists number_lawful (network_finite net) s t))
  where
    pick : Dec (s < junctions_of net) → Dec (t < junctions_of net) → Outcome (network_of net) s t limit → (number : ℕ) × (time : ℕ) × (energy : ℕ) × Gives net labels s t limit number time energy
    pick (no off) d o = (21, 0, 0, answer_given check (off_map (inl (omega arith)) refl refl refl))
    pick (yes h) (no off) o = (21, 0, 0, answer_given check (off_map (inr (omega arith)) refl refl refl))
    pick (yes h) (yes k) (Outcome.answered {p} best) = (0, p.second, p.first, answer_given check (found h k best refl))
    pick (yes h) (yes k) (Outcome.over out) = (23, 0, 0, answer_given check (over_limit h k out refl refl refl))
    pick (yes h) (yes k) (Outcome.apart none) = (22, 0, 0, answer_given check (not_connected h k none refl refl refl))

-- in one way
pub one_answer :
    {net labels : List ℕ} {s t limit number time energy number' time' energy' : ℕ} →
    Gives net labels s t limit number time energy → Gives net labels s t limit number' time' energy' → (number ≡ number') × (time ≡ time') × (energy ≡ energy')
one_answer {net} {s = s} {t = t} {limit = limit} a b =
    let same = answers_unique net s t limit (given_answer a) (given_answer b) in
    (same.number_is, same.time_is, same.energy_is)

-- an end off the map is no junction
off_or_on : {n s t : ℕ} → (n ≤ s) ⊎ (n ≤ t) → s < n → t < n → ⊥
off_or_on off h k = ⊎_elim (λ z. omega arith) (λ z. omega arith) off

-- Each number is given exactly if its reason holds, and there is no other number
module _ {net : List ℕ} {s t limit number time energy : ℕ} (a : Answers net s t limit number time energy) where
  answer_number : {number' time' energy' : ℕ} → Answers net s t limit number' time' energy' → number ≡ number'
  answer_number b = (answers_unique net s t limit a b).number_is

  pub answer_over : (number ≡ 23) ↔ ((s < junctions_of net) × (t < junctions_of net) × Over (network_of net) s t limit)
  answer_over = (there a, λ w. answer_number (over_limit w.0 w.1 w.2 refl refl refl))
    where
      there : Answers net s t limit number time energy → number ≡ 23 → (s < junctions_of net) × (t < junctions_of net) × Over (network_of net) s t limit
      there (off_map off e f g) z = absurd (omega arith)
      there (not_connected h k none e f g) z = absurd (omega arith)
      there (over_limit h k out e f g) z = (h, k, out)
      there (found h k best e) z = absurd (omega arith)

  pub answer_apart : (number ≡ 22) ↔ ((s < junctions_of net) × (t < junctions_of net) × Apart (network_of net) s t)
  answer_apart = (there a, λ w. answer_number (not_connected w.0 w.1 w.2 refl refl refl))
    where
      there : Answers net s t limit number time energy → number ≡ 22 → (s < junctions_of net) × (t < junctions_of net) × Apart (network_of net) s t
      there (off_map off e f g) z = absurd (omega arith)
      there (not_connected h k none e f g) z = (h, k, none)
      there (over_limit h k out e f g) z = absurd (omega arith)
      there (found h k best e) z = absurd (omega arith)

  pub answer_off_map : (number ≡ 21) ↔ ((junctions_of net ≤ s) ⊎ (junctions_of net ≤ t))
  answer_off_map = (there a, λ off. answer_number (off_map off refl refl refl))
    where
      there : Answers net s t limit number time energy → number ≡ 21 → (junctions_of net ≤ s) ⊎ (junctions_of net ≤ t)
      there (off_map off e f g) z = off
      there (not_connected h k none e f g) z = absurd (omega arith)
      there (over_limit h k out e f g) z = absurd (omega arith)
      there (found h k best e) z = absurd (omega arith)

pub answer_reasons :
    {net : List ℕ} {s t limit number time energy : ℕ} → Answers net s t limit number time energy →
    (number ≡ 0) ⊎ ((number ≡ 21) ⊎ ((number ≡ 22) ⊎ (number ≡ 23)))
answer_reasons (off_map off e f g) = inr (inl e)
answer_reasons (not_connected h k none e f g) = inr (inr (inl e))
answer_reasons (over_limit h k out e f g) = inr (inr (inr e))
answer_reasons (found h k best e) = inl e

-- ---- Batches

-- on an accepted set the shape alone decides
pub batch-number :
    {net labels queries before after : List ℕ} {number : ℕ} → Checked net labels 0 → BatchDone net labels queries before number after → number ≡ shape_number queries before
batch-number check (misshapen n e f) = e
batch-number check (not_accepted z c k f) = absurd (k (check_unique c check))
batch-number check (answered z c e l g) = e ∙ sym z

-- every triple of an answered batch is answered as it would be alone
pub batch_triples :
    {net labels queries before after : List ℕ} {number : ℕ} → BatchDone net labels queries before number after → number ≡ 0 → (i : ℕ) → 3 * i < length queries →
    Gives net labels (get_or queries (3 * i) 0) (get_or queries (3 * i + 1) 0) (get_or queries (3 * i + 2) 0)
    (get_or after (3 * i) 0) (get_or after (3 * i + 1) 0) (get_or after (3 * i + 2) 0)
batch_triples (misshapen n e f) z i h = absurd (n (sym e ∙ z))
batch_triples (not_accepted y c k f) z i h = absurd (k z)
batch_triples (answered y c e l g) z i h = answer_given c (g i h)

-- ---- Routes

-- on an accepted set Route gives what the set answers
pub accepted-route :
    {net labels before after : List ℕ} {s t limit number time energy count : ℕ} → Checked net labels 0 →
    Routed net labels s t limit before number time energy count after → RouteAnswered net s t limit before number time energy count after
accepted-route check (Routed.not_accepted c n r) = absurd (n (check_unique c check))
accepted-route check (Routed.answered c a) = a

-- no triple is refused by 24
reasons_roomy : {number : ℕ} → (number ≡ 0) ⊎ ((number ≡ 21) ⊎ ((number ≡ 22) ⊎ (number ≡ 23))) → number ≡ 24 → ⊥
reasons_roomy reasons z = ⊎_elim (λ e. omega arith) (λ r. ⊎_elim (λ e. omega arith) (λ q. ⊎_elim (λ e. omega arith) (λ e. omega arith) q) r) reasons

module _ {net before after : List ℕ} {s t limit number time energy count : ℕ} where
  -- without lack of room the route's answer is the triple's
  pub route_answers : RouteAnswered net s t limit before number time energy count after → (number ≡ 24 → ⊥) → Answers net s t limit number time energy
  route_answers (RouteAnswered.no_answer a n k l) roomy = a
  route_answers (RouteAnswered.no_room a first short r) roomy = absurd (roomy r.number_is)
  route_answers (RouteAnswered.routed a first fits e k l) roomy = rw e a

  pub route-first :
      RouteAnswered net s t limit before number time energy count after → number ≡ 0 →
      (route : List ℕ) × FirstRoute (network_of net) s t (pair time energy) route × (count ≡ length route) × (after ≡ filled before route)
  route-first (RouteAnswered.no_answer a n k l) z = absurd (n z)
  route-first (RouteAnswered.no_room a first short r) z = absurd (omega (arith, r.number_is))
  route-first (RouteAnswered.routed {route} a first fits e k l) z = (route, first, k, l)

  -- a number other than 24 is the triple's, and where room is missing the triple has an answer
  route-number :
      {other : ℕ} {P : Type 0} → (other ≡ 24 → ⊥) → (other ≡ 0 → ⊥) → RouteAnswered net s t limit before number time energy count after →
      ((given time' energy' : ℕ) → Answers net s t limit given time' energy' → (given ≡ other) ↔ P) → (number ≡ other) ↔ P
  route-number roomy some (RouteAnswered.no_answer a n k l) exactly = exactly _ _ _ a
  route-number roomy some (RouteAnswered.no_room a first short r) exactly =
      ((λ z. absurd (roomy (sym z ∙ r.number_is))), λ p. absurd (some (sym ((exactly _ _ _ a).1 p))))
  route-number roomy some (RouteAnswered.routed a first fits e k l) exactly =
      ((λ z. absurd (some (sym z ∙ e))), λ p. absurd (some (sym ((exactly _ _ _ a).1 p))))

  pub route-over :
      RouteAnswered net s t limit before number time energy count after → (number ≡ 23) ↔ ((s < junctions_of net) × (t < junctions_of net) × Over (network_of net) s t limit)
  route-over done = route-number (λ z. omega arith) (λ z. omega arith) done (λ given time' energy' a. answer_over a)

  pub route-apart :
      RouteAnswered net s t limit before number time energy count after → (number ≡ 22) ↔ ((s < junctions_of net) × (t < junctions_of net) × Apart (network_of net) s t)
  route-apart done = route-number (λ z. omega arith) (λ z. omega arith) done (λ given time' energy' a. answer_apart a)

  pub route_off_map :
      RouteAnswered net s t limit before number time energy count after → (number ≡ 21) ↔ ((junctions_of net ≤ s) ⊎ (junctions_of net ≤ t))
  route_off_map done = route-number (λ z. omega arith) (λ z. omega arith) done (λ given time' energy' a. answer_off_map a)

  pub route_reasons :
      RouteAnswered net s t limit before number time energy count after →
      (number ≡ 0) ⊎ ((number ≡ 21) ⊎ ((number ≡ 22) ⊎ ((number ≡ 23) ⊎ (number ≡ 24))))
  route_reasons (RouteAnswered.no_answer a n k l) =
      ⊎_elim inl (λ z. inr (⊎_elim inl (λ y. inr (⊎_elim inl (λ x. inr (inl x)) y)) z)) (answer_reasons a)
  route_reasons (RouteAnswered.no_room a first short r) = inr (inr (inr (inr r.number_is)))
  route_reasons (RouteAnswered.routed a first fits e k l) = inl e

  -- 24 says that the triple is answered, and by a route that is too long
  pub route_no_room :
      {labels : List ℕ} → Checked net labels 0 → RouteAnswered net s t limit before number time energy count after → number ≡ 24 →
      (best_time : ℕ) × (best_energy : ℕ) × (route : List ℕ) × Gives net labels s t limit 0 best_time best_energy ×
      FirstRoute (network_of net) s t (pair best_time best_energy) route × (length before < length route)
  route_no_room check (RouteAnswered.no_answer a n k l) z = absurd (reasons_roomy (answer_reasons a) z)
  route_no_room check (RouteAnswered.no_room {best_time} {best_energy} {route} a first short r) z =
      (best_time, best_energy, route, answer_given check a, first, short)
  route_no_room check (RouteAnswered.routed a first fits e k l) z = absurd (omega arith)

-- room is missing exactly if the first route has more junctions than places were lent
module _ {net : List ℕ} {s t limit best_time best_energy : ℕ} {route : List ℕ}
    (first : FirstRoute (network_of net) s t (pair best_time best_energy) route) (best : Answers net s t limit 0 best_time best_energy) where
  same_route : {time energy : ℕ} {other : List ℕ} → Answers net s t limit 0 time energy → FirstRoute (network_of net) s t (pair time energy) other → length other ≡ length route
  same_route {other = other} a h =
      let same = answers_unique net s t limit a best in
      ap length (first_route_unique (subst (λ q. FirstRoute (network_of net) s t q other) (ap₂ pair same.time_is same.energy_is) h) first)

  pub route-room :
      {before after : List ℕ} {number time energy count : ℕ} → RouteAnswered net s t limit before number time energy count after →
      (number ≡ 24) ↔ (length before < length route)
  route-room (RouteAnswered.no_answer a n k l) = absurd (n (answers_unique net s t limit a best).number_is)
  route-room (RouteAnswered.no_room a other short r) = (λ z. omega (arith, same_route a other), λ h. r.number_is)
  route-room (RouteAnswered.routed a other fits e k l) = (λ z. absurd (omega arith), λ h. absurd (omega (arith, same_route a other)))

-- ---- Lists

-- a list with an entry has a path
entry-walk : {net : List ℕ} {s t : ℕ} {l : List Weight} → IsTradeOff (network_of net) s t l → 1 ≤ length l → Walk (network_of net) s t
entry-walk {l = []} right h = absurd (omega arith)
entry-walk {l = p ∷ l} right h = (right.real (Memᴰ.head refl)).walk

module _ {net times_before energies_before times_after energies_after : List ℕ} {s t number count : ℕ} where
  -- on an accepted set Trade-off list gives what the set answers
  pub accepted-list :
      {labels : List ℕ} → Checked net labels 0 → Listed net labels s t times_before energies_before number count times_after energies_after →
      ListAnswered net s t times_before energies_before number count times_after energies_after
  accepted-list check (Listed.not_accepted c n r) = absurd (n (check_unique c check))
  accepted-list check (Listed.answered c a) = a

  pub list-whole :
      ListAnswered net s t times_before energies_before number count times_after energies_after → number ≡ 0 →
      (list : List Weight) × IsTradeOff (network_of net) s t list × (count ≡ length list) ×
      (times_after ≡ filled times_before (times list)) × (energies_after ≡ filled energies_before (energies list))
  list-whole (ListAnswered.off_map off r) z = absurd (omega (arith, r.number_is))
  list-whole (ListAnswered.not_connected h k apart r) z = absurd (omega (arith, r.number_is))
  list-whole (ListAnswered.no_room h k right some short r) z = absurd (omega (arith, r.number_is))
  list-whole (ListAnswered.listed {list} h k right some fits e f g l) z = (list, right, f, g, l)

  pub list_off_map :
      ListAnswered net s t times_before energies_before number count times_after energies_after → (number ≡ 21) ↔ ((junctions_of net ≤ s) ⊎ (junctions_of net ≤ t))
  list_off_map (ListAnswered.off_map off r) = (λ z. off, λ w. r.number_is)
  list_off_map (ListAnswered.not_connected h k apart r) = (λ z. absurd (omega (arith, r.number_is)), λ off. absurd (off_or_on off h k))
  list_off_map (ListAnswered.no_room h k right some short r) = (λ z. absurd (omega (arith, r.number_is)), λ off. absurd (off_or_on off h k))
  list_off_map (ListAnswered.listed h k right some fits e f g l) = (λ z. absurd (omega arith), λ off. absurd (off_or_on off h k))

  pub list-apart :
      ListAnswered net s t times_before energies_before number count times_after energies_after →
      (number ≡ 22) ↔ ((s < junctions_of net) × (t < junctions_of net) × Apart (network_of net) s t)
  list-apart (ListAnswered.off_map off r) = (λ z. absurd (omega (arith, r.number_is)), λ w. absurd (off_or_on off w.0 w.1))
  list-apart (ListAnswered.not_connected h k apart r) = (λ z. (h, k, apart), λ w. r.number_is)
  list-apart (ListAnswered.no_room h k right some short r) = (λ z. absurd (omega (arith, r.number_is)), λ w. absurd (w.2 (entry-walk right some)))
  list-apart (ListAnswered.listed h k right some fits e f g l) = (λ z. absurd (omega arith), λ w. absurd (w.2 (entry-walk right some)))

  pub list_reasons :
      ListAnswered net s t times_before energies_before number count times_after energies_after →
      (number ≡ 0) ⊎ ((number ≡ 21) ⊎ ((number ≡ 22) ⊎ (number ≡ 24)))
  list_reasons (ListAnswered.off_map off r) = inr (inl r.number_is)
  list_reasons (ListAnswered.not_connected h k apart r) = inr (inr (inl r.number_is))
  list_reasons (ListAnswered.no_room h k right some short r) = inr (inr (inr r.number_is))
  list_reasons (ListAnswered.listed h k right some fits e f g l) = inl e

  -- room is missing exactly if the list has more entries than the shorter slice has places
  module _ {list : List Weight} (is : IsTradeOff (network_of net) s t list) (on : s < junctions_of net) (on' : t < junctions_of net) (has : 1 ≤ length list) where
    pub list-room :
        ListAnswered net s t times_before energies_before number count times_after energies_after →
        (number ≡ 24) ↔ (min (length times_before) (length energies_before) < length list)
    list-room (ListAnswered.off_map off r) = absurd (off_or_on off on on')
    list-room (ListAnswered.not_connected h k apart r) = absurd (apart (entry-walk is has))
    list-room (ListAnswered.no_room h k right some short r) = (λ z. rw (trade_off_unique number_lawful is right) short, λ w. r.number_is)
    list-room (ListAnswered.listed h k right some fits e f g l) = (λ z. absurd (omega arith), λ w. absurd (omega (arith, ap length (trade_off_unique number_lawful is right))))
