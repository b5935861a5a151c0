-- What demand 3 stands on: over a set that meets every path, the answer is the best total of two answered legs.
-- In this order: walks and lists; legs.
use mathlib.Core.Path.{◌≡◌, refl, ap, ap₂}
use mathlib.Core.Logic.{◌↔◌}
use mathlib.Core.List.{List}
use Prim.Native.Nat.{ℕ, ◌<◌}
use Rattle.paths.specs.Weights.{energy, pair, time, spent}
use Rattle.paths.specs.Network.{Walk, stay, go}
use Rattle.paths.specs.Cut.{IsCut, Legs}
use Rattle.paths.proofs.Figures.{number_lawful}
use Rattle.paths.proofs.Covering.{TradeOffs}
use Rattle.paths.proofs.Existence.{trade_off_exists}
use Rattle.paths.proofs.Cuts.{demand3-answered, demand3-refused}
use Rattle.lists.specs.Entries.{Weight}
use Rattle.network.specs.NetworkFile.{network_of, junctions_of}
use Rattle.network.specs.working.Fits.{NetworkFits}
use Rattle.network.proofs.Arcs.{arc_on_map, network_finite}
use Rattle.network.specs.Versions.{version_one}
use Rattle.network.proofs.Accepted.{network-fits}
use Rattle.query.specs.Answers.{found}
use Rattle.query.proofs.AnswersUnique.{answers_unique}
use Rattle.accepted.specs.Check.{Checked}
use Rattle.demands.specs.Demands.{Gives, AnsweredLegs, BestTotal}
use Rattle.accepted.proofs.Accepted.{zero_accepts}
use Rattle.demands.proofs.DemandLaws.{given_answer, answer_given, answer_best}

-- ---- Walks and lists

-- a walk from a junction ends at a junction
walk_ends : {net : List ℕ} → NetworkFits net → {s t : ℕ} → s < junctions_of net → Walk (network_of net) s t → t < junctions_of net
walk_ends fits on_map stay = on_map
walk_ends fits on_map (go a rest) = walk_ends fits (arc_on_map fits a).1 rest

-- any two junctions have a trade-off list
every-list : (net : List ℕ) (v u : ℕ) → TradeOffs (network_of net) v u
every-list net = trade_off_exists number_lawful (network_finite net)

-- ---- Legs

module _ {net labels : List ℕ} {H : ℕ → Type 0} {s t limit : ℕ} where
  -- two answered legs are two best legs
  legs-best : {total_time total_energy : ℕ} → AnsweredLegs net labels H s t limit total_time total_energy → Legs (network_of net) H s t limit (pair total_time total_energy)
  legs-best l =
      record {
        at = l.at;
        inside = l.inside;
        first_limit = l.first_limit;
        second_limit = l.second_limit;
        cuts = l.cuts;
        first = pair l.time_of_first l.energy_of_first;
        second = pair l.second_time l.second_energy;
        first_leg = (answer_best (given_answer l.first_leg) refl).2;
        second_leg = (answer_best (given_answer l.second_leg) refl).2;
        adds = ap₂ pair l.times_add l.energies_add;
      }

  -- answered legs join junctions
  legs_on_map : {total_time total_energy : ℕ} → AnsweredLegs net labels H s t limit total_time total_energy → (s < junctions_of net) × (t < junctions_of net)
  legs_on_map l =
      ((answer_best (given_answer l.first_leg) refl).0, (answer_best (given_answer l.second_leg) refl).1)

module _ {net labels : List ℕ} (check : Checked net labels 0) {H : ℕ → Type 0} {s t limit : ℕ} where
  -- two best legs between junctions are answered
  best-legs : {p : Weight} → s < junctions_of net → t < junctions_of net → Legs (network_of net) H s t limit p → AnsweredLegs net labels H s t limit (time energy p) (spent energy p)
  best-legs h k l =
      let middle = walk_ends (network-fits version_one net (zero_accepts check refl).network_passes) h l.first_leg.walk in
      record {
        at = l.at;
        inside = l.inside;
        first_limit = l.first_limit;
        second_limit = l.second_limit;
        cuts = l.cuts;
        time_of_first = time energy l.first;
        energy_of_first = spent energy l.first;
        second_time = time energy l.second;
        second_energy = spent energy l.second;
        first_leg = answer_given check (found h middle l.first_leg refl);
        second_leg = answer_given check (found middle k l.second_leg refl);
        times_add = ap (time energy) l.adds;
        energies_add = ap (spent energy) l.adds;
      }

  module _ (cut : IsCut (network_of net) H s t) where
    pub answered_exactly : {total_time total_energy : ℕ} → Gives net labels s t limit 0 total_time total_energy ↔ BestTotal net labels H s t limit total_time total_energy
    answered_exactly {total_time} {total_energy} = (there, back)
      where
        there : Gives net labels s t limit 0 total_time total_energy → BestTotal net labels H s t limit total_time total_energy
        there g =
            let b = answer_best (given_answer g) refl in
            let z = (demand3-answered number_lawful cut (every-list net)).0 b.2 in
            record {
              legs = best-legs b.0 b.1 z.legs;
              least = λ other_time other_energy l. z.least (pair other_time other_energy) (legs-best l);
            }

        back : BestTotal net labels H s t limit total_time total_energy → Gives net labels s t limit 0 total_time total_energy
        back b =
            let on_map = legs_on_map b.legs in
            let best =
            (demand3-answered number_lawful cut (every-list net)).1
            (record { legs = legs-best b.legs; least = λ q l. b.least (time energy q) (spent energy q) (best-legs on_map.0 on_map.1 l) }) in
            answer_given check (found on_map.0 on_map.1 best refl)

    pub refused_exactly :
        {number total_time total_energy : ℕ} → Gives net labels s t limit number total_time total_energy → (number ≡ 0 → ⊥) ↔ ((other_time other_energy : ℕ) → AnsweredLegs net labels H s t limit other_time other_energy → ⊥)
    refused_exactly {number} {total_time} {total_energy} g = (there, back)
      where
        there : (number ≡ 0 → ⊥) → (other_time other_energy : ℕ) → AnsweredLegs net labels H s t limit other_time other_energy → ⊥
        there n other_time other_energy l =
            let on_map = legs_on_map l in
            (demand3-refused number_lawful cut (every-list net)).0
            (λ p best. n (answers_unique net s t limit (given_answer g) (found on_map.0 on_map.1 best refl)).number_is)
            (pair other_time other_energy) (legs-best l)

        back : ((other_time other_energy : ℕ) → AnsweredLegs net labels H s t limit other_time other_energy → ⊥) → number ≡ 0 → ⊥
        back none z =
            let b = answer_best (given_answer g) z in
            (demand3-refused number_lawful cut (every-list net)).1
            (λ p l. none (time energy p) (spent energy p) (best-legs b.0 b.1 l))
            (pair total_time total_energy) b.2
