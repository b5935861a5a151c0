-- The three demands (SCOPE 7), over what the calls state of themselves. That each call ends on
-- arbitrary bytes and numbers is part of its being proved: no statement has a condition.
-- In this order: demand 1; the words of the other two; demand 2; demand 3.
use Rattle.std.specs.Prelude.{◌≡◌, ◌↔◌, ◌⊎◌, ℕ, ◌+◌, ◌*◌, ◌≤◌, ◌<◌, min, length, get_or}
use mathlib.Core.List.{List, [], ◌∷◌, Memᴰ}
use Rattle.paths.specs.Weights.{energy as energy_figures, pair, Beats, NotLater}
use Rattle.paths.specs.Network.{Walk, weight}
use Rattle.paths.specs.TradeOff.{Skyline, IsTradeOff}
use Rattle.paths.specs.Answer.{Best, Over, Apart}
use Rattle.paths.specs.Route.{FirstRoute}
use Rattle.paths.specs.Forest.{Above}
use Rattle.paths.specs.Cut.{IsCut}
use Rattle.refusals.specs.Lent.{filled}
use Rattle.lists.specs.Entries.{Weight, times, energies}
use Rattle.joins.specs.Answers.{Join, LimitedJoin}
use Rattle.network.specs.Versions.{version_one}
use Rattle.network.specs.NetworkFile.{network_of, junctions_of}
use Rattle.network.specs.NetworkNumber.{net_number}
use Rattle.forest.specs.LabelFile.{parents_of}
use Rattle.stored.specs.Stored.{stored}
use Rattle.files.specs.LabelForm.{labels_number}
use Rattle.files.specs.Shown.{Shows, Shown}
use Rattle.query.specs.Answers.{Answers}
use Rattle.accepted.specs.Check.{Checked}
use Rattle.labels.specs.Batch.{shape_number, BatchDone}
use Rattle.labels.specs.Route.{Routed}
use Rattle.labels.specs.List.{Listed}

-- ---- Demand 1

-- What a refusal carries, and that it changes nothing lent (SCOPE 7.1, 4.1)
pub record Demand1 : Type 0 where
  -- Batch refused: every answer place is as it was
  pub batch : {net labels queries before after : List ℕ} {number : ℕ} → BatchDone net labels queries before number after → (number ≡ 0 → ⊥) → after ≡ before
  -- one triple of a batch refused: two zeros
  pub triple : {net : List ℕ} {s t limit number time energy : ℕ} → Answers net s t limit number time energy → (number ≡ 0 → ⊥) → (time ≡ 0) × (energy ≡ 0)
  -- Route refused: zeros, and every place is as it was
  pub route :
      {net labels before after : List ℕ} {s t limit number time energy count : ℕ} →
      Routed net labels s t limit before number time energy count after → (number ≡ 0 → ⊥) → (time ≡ 0) × (energy ≡ 0) × (count ≡ 0) × (after ≡ before)
  -- Trade-off list refused: no count, and every place of both slices is as it was
  pub list :
      {net labels times_before energies_before times_after energies_after : List ℕ} {s t number count : ℕ} →
      Listed net labels s t times_before energies_before number count times_after energies_after → (number ≡ 0 → ⊥) →
      (count ≡ 0) × (times_after ≡ times_before) × (energies_after ≡ energies_before)
  -- Join refused: the same
  pub join :
      {ts es us fs times_before energies_before times_after energies_after : List ℕ} {number count : ℕ} →
      Join ts es us fs times_before energies_before number count times_after energies_after → (number ≡ 0 → ⊥) →
      (count ≡ 0) × (times_after ≡ times_before) × (energies_after ≡ energies_before)
  -- Limited join refused: two zeros
  pub limited_join : {ts es us fs : List ℕ} {limit number time energy : ℕ} → LimitedJoin ts es us fs limit number time energy → (number ≡ 0 → ⊥) → (time ≡ 0) × (energy ≡ 0)
  -- Show with nothing to show: the empty part
  pub show : {labels part : List ℕ} {v u : ℕ} → Shown labels v u part → (Shows labels v u → ⊥) → part ≡ []

-- ---- Words of demands 2 and 3

-- Right labels (SCOPE 2.9), spelled out: nothing invented, nothing beaten, nothing left out
pub record Complete (net labels : List ℕ) : Type 0 where
  pub real :
      {v u : ℕ} → Above (parents_of labels) u v → (p : Weight) → Memᴰ p (stored labels v u) →
      (walk : Walk (network_of net) v u) × (weight walk ≡ p)
  pub none_beaten :
      {v u : ℕ} → Above (parents_of labels) u v → (p : Weight) → Memᴰ p (stored labels v u) →
      (walk : Walk (network_of net) v u) → Beats energy_figures (weight walk) p → ⊥
  pub none_absent :
      {v u : ℕ} → Above (parents_of labels) u v → (p : Weight) → Skyline (network_of net) v u p → Memᴰ p (stored labels v u)

-- What Batch answers to the triple s, t, limit alone
abbrev pub Gives : List ℕ → List ℕ → ℕ → ℕ → ℕ → ℕ → ℕ → ℕ → Type 0
Gives net labels s t limit number time energy =
    BatchDone net labels (s ∷ (t ∷ (limit ∷ []))) (0 ∷ (0 ∷ (0 ∷ []))) 0 (number ∷ (time ∷ (energy ∷ [])))

-- Two answered legs: a junction of the set, and the limit cut into two whole parts
pub record AnsweredLegs (net labels : List ℕ) (H : ℕ → Type 0) (s t limit time energy : ℕ) : Type 0 where
  pub at : ℕ
  pub inside : H at
  pub first_limit : ℕ
  pub second_limit : ℕ
  pub cuts : first_limit + second_limit ≡ limit
  pub time_of_first : ℕ
  pub energy_of_first : ℕ
  pub second_time : ℕ
  pub second_energy : ℕ
  pub first_leg : Gives net labels s at first_limit 0 time_of_first energy_of_first
  pub second_leg : Gives net labels at t second_limit 0 second_time second_energy
  pub times_add : time_of_first + second_time ≡ time
  pub energies_add : energy_of_first + second_energy ≡ energy

-- The best total of two answered legs, over every junction of the set and every cut
pub record BestTotal (net labels : List ℕ) (H : ℕ → Type 0) (s t limit time energy : ℕ) : Type 0 where
  pub legs : AnsweredLegs net labels H s t limit time energy
  pub least : (other_time other_energy : ℕ) → AnsweredLegs net labels H s t limit other_time other_energy → NotLater energy_figures (pair time energy) (pair other_time other_energy)

-- ---- Demand 2

pub record Demand2 (net labels : List ℕ) : Type 0 where
  -- Labels of the right form are accepted exactly if they are right
  pub accepted_exactly : net_number version_one net ≡ 0 → labels_number version_one net labels ≡ 0 → (number : ℕ) → Checked net labels number → (number ≡ 0) ↔ Complete net labels
  -- On accepted labels any three numbers are answered, and in one way
  pub some_answer : Checked net labels 0 → (s t limit : ℕ) → (number : ℕ) × (time : ℕ) × (energy : ℕ) × Gives net labels s t limit number time energy
  pub one_answer :
      {s t limit number time energy number' time' energy' : ℕ} → Checked net labels 0 →
      Gives net labels s t limit number time energy → Gives net labels s t limit number' time' energy' → (number ≡ number') × (time ≡ time') × (energy ≡ energy')
  -- by the best answer
  pub found_exactly :
      {s t limit time energy : ℕ} → Checked net labels 0 →
      Gives net labels s t limit 0 time energy ↔ ((s < junctions_of net) × (t < junctions_of net) × Best (network_of net) s t limit (pair time energy))
  -- and its first route
  pub first_route :
      {before after : List ℕ} {s t limit time energy count : ℕ} → Checked net labels 0 → Routed net labels s t limit before 0 time energy count after →
      (route : List ℕ) × FirstRoute (network_of net) s t (pair time energy) route × (count ≡ length route) × (after ≡ filled before route)
  -- A route's answer is the triple's, unless room is missing
  pub route_answers :
      {before after : List ℕ} {s t limit number time energy count : ℕ} → Checked net labels 0 → Routed net labels s t limit before number time energy count after →
      (number ≡ 24 → ⊥) → Gives net labels s t limit number time energy
  -- Every triple of every batch is answered as it would be alone
  pub batch_triples :
      {queries before after : List ℕ} → Checked net labels 0 → BatchDone net labels queries before 0 after → (i : ℕ) → 3 * i < length queries →
      Gives net labels (get_or queries (3 * i) 0) (get_or queries (3 * i + 1) 0) (get_or queries (3 * i + 2) 0)
      (get_or after (3 * i) 0) (get_or after (3 * i + 1) 0) (get_or after (3 * i + 2) 0)
  -- The whole list is the complete trade-off list
  pub whole_list :
      {times_before energies_before times_after energies_after : List ℕ} {s t count : ℕ} → Checked net labels 0 →
      Listed net labels s t times_before energies_before 0 count times_after energies_after →
      (list : List Weight) × IsTradeOff (network_of net) s t list × (count ≡ length list) ×
      (times_after ≡ filled times_before (times list)) × (energies_after ≡ filled energies_before (energies list))
  -- 22 and 23 are given exactly if they are so
  pub over_exactly :
      {s t limit number time energy : ℕ} → Checked net labels 0 → Gives net labels s t limit number time energy →
      (number ≡ 23) ↔ ((s < junctions_of net) × (t < junctions_of net) × Over (network_of net) s t limit)
  pub apart_exactly :
      {s t limit number time energy : ℕ} → Checked net labels 0 → Gives net labels s t limit number time energy →
      (number ≡ 22) ↔ ((s < junctions_of net) × (t < junctions_of net) × Apart (network_of net) s t)
  pub list_apart_exactly :
      {times_before energies_before times_after energies_after : List ℕ} {s t number count : ℕ} → Checked net labels 0 →
      Listed net labels s t times_before energies_before number count times_after energies_after →
      (number ≡ 22) ↔ ((s < junctions_of net) × (t < junctions_of net) × Apart (network_of net) s t)
  -- Route refuses a triple by its number for the same reasons
  pub route_over_exactly :
      {before after : List ℕ} {s t limit number time energy count : ℕ} → Checked net labels 0 → Routed net labels s t limit before number time energy count after →
      (number ≡ 23) ↔ ((s < junctions_of net) × (t < junctions_of net) × Over (network_of net) s t limit)
  pub route_apart_exactly :
      {before after : List ℕ} {s t limit number time energy count : ℕ} → Checked net labels 0 → Routed net labels s t limit before number time energy count after →
      (number ≡ 22) ↔ ((s < junctions_of net) × (t < junctions_of net) × Apart (network_of net) s t)
  -- Other reasons: a junction off the map
  pub off_map_exactly :
      {s t limit number time energy : ℕ} → Checked net labels 0 → Gives net labels s t limit number time energy →
      (number ≡ 21) ↔ ((junctions_of net ≤ s) ⊎ (junctions_of net ≤ t))
  -- the same for Route
  pub route_off_map_exactly :
      {before after : List ℕ} {s t limit number time energy count : ℕ} → Checked net labels 0 → Routed net labels s t limit before number time energy count after →
      (number ≡ 21) ↔ ((junctions_of net ≤ s) ⊎ (junctions_of net ≤ t))
  -- and for Trade-off list
  pub list_off_map_exactly :
      {times_before energies_before times_after energies_after : List ℕ} {s t number count : ℕ} → Checked net labels 0 →
      Listed net labels s t times_before energies_before number count times_after energies_after →
      (number ≡ 21) ↔ ((junctions_of net ≤ s) ⊎ (junctions_of net ≤ t))
  -- a misshapen batch: on accepted labels Batch's own number is the shape's
  pub batch_number_exactly :
      {queries before after : List ℕ} {number : ℕ} → Checked net labels 0 → BatchDone net labels queries before number after → number ≡ shape_number queries before
  -- too little room: a route with more junctions than places
  pub route_room_exactly :
      {before after route : List ℕ} {s t limit number time energy count best_time best_energy : ℕ} → Checked net labels 0 →
      Routed net labels s t limit before number time energy count after →
      FirstRoute (network_of net) s t (pair best_time best_energy) route → Gives net labels s t limit 0 best_time best_energy →
      (number ≡ 24) ↔ (length before < length route)
  -- and 24 is given for no other reason: there is an answer, and its first route is too long
  pub route_no_room :
      {before after : List ℕ} {s t limit number time energy count : ℕ} → Checked net labels 0 → Routed net labels s t limit before number time energy count after → number ≡ 24 →
      (best_time : ℕ) × (best_energy : ℕ) × (route : List ℕ) × Gives net labels s t limit 0 best_time best_energy ×
      FirstRoute (network_of net) s t (pair best_time best_energy) route × (length before < length route)
  -- a list with more entries than the shorter slice has places
  pub list_room_exactly :
      {times_before energies_before times_after energies_after : List ℕ} {list : List Weight} {s t number count : ℕ} → Checked net labels 0 →
      Listed net labels s t times_before energies_before number count times_after energies_after →
      IsTradeOff (network_of net) s t list → s < junctions_of net → t < junctions_of net → 1 ≤ length list →
      (number ≡ 24) ↔ (min (length times_before) (length energies_before) < length list)
  -- and no further one
  pub only_reasons :
      {s t limit number time energy : ℕ} → Checked net labels 0 → Gives net labels s t limit number time energy →
      (number ≡ 0) ⊎ ((number ≡ 21) ⊎ ((number ≡ 22) ⊎ (number ≡ 23)))
  -- nor has Route any but these
  pub route_only_reasons :
      {before after : List ℕ} {s t limit number time energy count : ℕ} → Checked net labels 0 → Routed net labels s t limit before number time energy count after →
      (number ≡ 0) ⊎ ((number ≡ 21) ⊎ ((number ≡ 22) ⊎ ((number ≡ 23) ⊎ (number ≡ 24))))
  -- nor Trade-off list
  pub list_only_reasons :
      {times_before energies_before times_after energies_after : List ℕ} {s t number count : ℕ} → Checked net labels 0 →
      Listed net labels s t times_before energies_before number count times_after energies_after →
      (number ≡ 0) ⊎ ((number ≡ 21) ⊎ ((number ≡ 22) ⊎ (number ≡ 24)))

-- ---- Demand 3

-- Over any set of junctions that meets every path between the two (SCOPE 7.3)
pub record Demand3 (net labels : List ℕ) : Type 1 where
  -- an answer is the best total of two answered legs
  pub answered :
      Checked net labels 0 → (H : ℕ → Type 0) (s t limit : ℕ) → IsCut (network_of net) H s t →
      (time energy : ℕ) → Gives net labels s t limit 0 time energy ↔ BestTotal net labels H s t limit time energy
  -- and there is none where no junction and no cut give two
  pub refused :
      Checked net labels 0 → (H : ℕ → Type 0) (s t limit : ℕ) → IsCut (network_of net) H s t →
      (number time energy : ℕ) → Gives net labels s t limit number time energy →
      (number ≡ 0 → ⊥) ↔ ((other_time other_energy : ℕ) → AnsweredLegs net labels H s t limit other_time other_energy → ⊥)
