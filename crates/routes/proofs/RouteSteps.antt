-- One step of the first route: of the roads of a junction, the first in file order after which the rest can be spent begins it.
-- In this order: what is left after a road; the search for the road; the step.
use mathlib.Core.Path.{◌≡◌, refl, sym, ap, ap₂, ◌∙◌}
use mathlib.Core.Bool.{Bool, true, false}
use mathlib.Core.List.{List, ◌∷◌}
use Prim.Native.Nat.{ℕ, suc, ◌+◌, ◌-◌, ◌≤◌, ◌<◌}
use native.Mathlib.Decide.{dec_le, ℕ_discrete}
use native.Mathlib.Omega.{arith}
use lib.ListN.{get_or}
use Rattle.paths.specs.Weights.{weights, energy, pair, time, spent}
use Rattle.paths.specs.Network.{Walk, stay, go, weight}
use Rattle.paths.specs.TradeOff.{Skyline}
use Rattle.paths.specs.Route.{FirstRoute}
use Rattle.paths.proofs.Figures.{number_lawful}
use Rattle.paths.proofs.Weights.{weights_lawful, ⊕_cancel_eq_right}
use Rattle.paths.proofs.RouteStep.{Smallest, first_among_same, first_step, rest_of_only_arc, covering_spends, rest_skyline}
use Rattle.network.specs.NetworkFile.{junctions_of, roads_of, road_time, road_energy, RoadArc, network_of}
use Rattle.network.specs.working.Roads.{touches, other_end, next_road, Grouped}
use Rattle.tables.specs.working.Layout.{firsts_from}
use Rattle.network.specs.working.Fits.{NetworkFits}
use Rattle.network.proofs.Arcs.{one_weight}
use Rattle.network.proofs.RoadsAt.{next_road_low, next_road-touches, next_road-passed, touches_arc, arc_touches, others_rise}
use Rattle.refusals.specs.working.Decides.{Decides}
use Rattle.paths.specs.declared.pair.Pair.{Pair}
use Rattle.reaching.specs.working.Reach.{PathWithin, weight_of}
use Rattle.reaching.proofs.Searching.{not_both}
use Rattle.routes.specs.working.Steps.{RoadPair, FitsInto, StepFits, StepRoad}

-- ---- What is left after a road

-- The pair of road k
abbrev pub road_pair : List ℕ → ℕ → (weights energy).Figure
road_pair net k = pair (road_time net k) (road_energy net k)

-- a road and what is left make up the whole
pub rest-adds :
    (net : List ℕ) (k : ℕ) {whole_time whole_energy : ℕ} → road_time net k ≤ whole_time → road_energy net k ≤ whole_energy →
    (weights energy).◌⊕◌ (road_pair net k) (pair (whole_time - road_time net k) (whole_energy - road_energy net k)) ≡ pair whole_time whole_energy
rest-adds net k h g = ap₂ pair (omega arith) (omega arith)

-- What subtracting a pair gives
abbrev pub LeftAfter : Pair → Pair → Pair → Type 0
LeftAfter whole part left = (left.time.0 ≡ whole.time.0 - part.time.0) × (left.energy.0 ≡ whole.energy.0 - part.energy.0)

-- A road of x that fits
record SomeStep (net : List ℕ) (x y whole_time whole_energy : ℕ) : Type 0 where
  road : ℕ
  stands : road < roads_of net
  at_start : touches net x road ≡ true
  step : StepFits net x y road whole_time whole_energy

-- No road of x before k fits, and k is a road of x or behind the last
pub record RoadSearch (net : List ℕ) (x y whole_time whole_energy k : ℕ) : Type 0 where
  pub at_start : k < roads_of net → touches net x k ≡ true
  pub none_before : (j : ℕ) → j < k → touches net x j ≡ true → StepFits net x y j whole_time whole_energy → ⊥

module _ {net : List ℕ} {x y k : ℕ} {takes whole : Pair} (read : RoadPair net k takes) where
  -- a road that does not fit
  pub step_unfit : (FitsInto takes whole → ⊥) → Decides (StepFits net x y k whole.time.0 whole.energy.0) false
  step_unfit unfit =
      record {
        holds = λ q. not_both q;
        fails = λ q step. unfit (record { fitting_time = rw read.time_is step.fitting_time; fitting_energy = rw read.energy_is step.fitting_energy });
      }

  -- of any other road the answer is whether its other end reaches y within the rest
  pub step-decided :
      {left : Pair} {next : ℕ} {answer : Bool} → FitsInto takes whole → LeftAfter whole takes left → next ≡ other_end net x k →
      Decides (PathWithin net next y (weight_of left)) answer → Decides (StepFits net x y k whole.time.0 whole.energy.0) answer
  step-decided {left} {next} fits rest e decides =
      record {
        holds = λ q.
            record { fitting_time = rw (← read.time_is) fits.fitting_time; fitting_energy = rw (← read.energy_is) fits.fitting_energy; within = rw (← same) (decides.holds q) };
        fails = λ q step. decides.fails q (rw same step.within);
      }
    where
      same : PathWithin net next y (weight_of left) ≡ PathWithin net (other_end net x k) y (pair (whole.time.0 - road_time net k) (whole.energy.0 - road_energy net k))
      same = rw (e, rest.0, rest.1, read.time_is, read.energy_is)

-- what the road after one of x is asked with
pub road-follows :
    {net tables : List ℕ} {x y k whole_time whole_energy : ℕ} → NetworkFits net → Grouped net tables → RoadSearch net x y whole_time whole_energy k →
    k < roads_of net → NetworkFits net × Grouped net tables × (k < roads_of net) × (touches net x k ≡ true)
road-follows fits grouped now h =
    (fits, grouped, h, now.at_start h)

module _ {net : List ℕ} (fits : NetworkFits net) where
  -- a first arc whose rest is walked fits
  arc_fits :
      {x v y k whole_time whole_energy : ℕ} {w : (weights energy).Figure} → RoadArc net x v k w → (rest : Walk (network_of net) v y) →
      (weights energy).◌⊕◌ w (weight rest) ≡ pair whole_time whole_energy → StepFits net x y k whole_time whole_energy
  arc_fits {x} {v} {y} {k} {whole_time} {whole_energy} {w} a rest e =
      let takes : time energy w ≡ road_time net k = ap (time energy) a.weighs in
      let spends : spent energy w ≡ road_energy net k = ap (spent energy) a.weighs in
      let sum-time : time energy w + time energy (weight rest) ≡ whole_time = ap (time energy) e in
      let sum-energy : spent energy w + spent energy (weight rest) ≡ whole_energy = ap (spent energy) e in
      record {
        fitting_time = omega arith;
        fitting_energy = omega arith;
        within = rw (← (arc_touches fits a).1) (record { walk = rest; no_larger = (omega arith, omega arith) });
      }

  -- a walk of that weight to another junction begins with one
  walk_steps : {x y whole_time whole_energy : ℕ} (w : Walk (network_of net) x y) → (x ≡ y → ⊥) → weight w ≡ pair whole_time whole_energy → SomeStep net x y whole_time whole_energy
  unfolding weight
  walk_steps stay apart e = absurd (apart refl)
  walk_steps (go {r = k} a rest) apart e =
      record { road = k; stands = a.stands; at_start = (arc_touches fits a).0; step = arc_fits a rest e }

  -- ---- The search for the road

  -- the first road of x
  pub search_start :
      {x y whole_time whole_energy k : ℕ} {tables : List ℕ} → Grouped net tables → x < junctions_of net → k ≡ get_or tables (firsts_from + x) 0 →
      RoadSearch net x y whole_time whole_energy k
  search_start {x} grouped on_map e =
      rw (e, grouped.first x on_map) (
      record {
        at_start = λ h. next_road-touches net x 0 h;
        none_before = λ j h here step. let z = next_road-passed net x 0 j here h in absurd (omega arith);
      })

  -- the road that follows one that does not fit
  pub search_more :
      {x y whole_time whole_energy k next : ℕ} → RoadSearch net x y whole_time whole_energy k → (StepFits net x y k whole_time whole_energy → ⊥) → next ≡ next_road net x (suc k) →
      RoadSearch net x y whole_time whole_energy next
  search_more {x} {y} {whole_time} {whole_energy} {k} now unfit e =
      rw e (
      record {
        at_start = λ h. next_road-touches net x (suc k) h;
        none_before = λ j h here step. earlier j here step (next_road-passed net x (suc k) j here h) (ℕ_discrete j k);
      })
    where
      earlier : (j : ℕ) → touches net x j ≡ true → StepFits net x y j whole_time whole_energy → j < suc k → Dec (j ≡ k) → ⊥
      earlier j here step h (yes same) = unfit (rw same at step)
      earlier j here step h (no apart) = now.none_before j (omega arith) here step

  -- comes later
  pub search_later : (x : ℕ) {k next : ℕ} → next ≡ next_road net x (suc k) → k < next
  search_later x {k} e = omega (arith, next_road_low net x (suc k), e)

  -- the road is found
  pub search_found :
      {x y whole_time whole_energy k : ℕ} → RoadSearch net x y whole_time whole_energy k → k < roads_of net → StepFits net x y k whole_time whole_energy → StepRoad net x y k whole_time whole_energy
  search_found now h step = record { stands = h; at_start = now.at_start h; fits = step; none_before = now.none_before }

  -- an unbeaten pair is spent by a walk, so the search ends before the last road
  pub search_never :
      {x y whole_time whole_energy k : ℕ} → RoadSearch net x y whole_time whole_energy k → roads_of net ≤ k → (x ≡ y → ⊥) →
      Skyline (network_of net) x y (pair whole_time whole_energy) → ⊥
  search_never now h apart line =
      let some = walk_steps line.walk apart line.weighs in
      now.none_before some.road (omega (arith, some.stands)) some.at_start some.step

  -- ---- The step

  module _ {x y k whole_time whole_energy : ℕ} (line : Skyline (network_of net) x y (pair whole_time whole_energy)) (step : StepRoad net x y k whole_time whole_energy) where
    -- the road as an arc
    pub step_arc : RoadArc net x (other_end net x k) k (road_pair net k)
    step_arc = touches_arc fits x k step.stands step.at_start

    abbrev rest : Walk (network_of net) (other_end net x k) y
    rest = step.fits.within.walk

    covers : (weights energy).◌⊑◌ ((weights energy).◌⊕◌ (road_pair net k) (weight rest)) (pair whole_time whole_energy)
    covers =
        let small_energy : spent energy (weight rest) ≤ whole_energy - road_energy net k = step.fits.within.no_larger.0 in
        let small_time : time energy (weight rest) ≤ whole_time - road_time net k = step.fits.within.no_larger.1 in
        (omega (arith, step.fits.fitting_energy), omega (arith, step.fits.fitting_time))

    -- the road and the rest are the whole
    pub step-whole : (weights energy).◌⊕◌ (road_pair net k) (pair (whole_time - road_time net k) (whole_energy - road_energy net k)) ≡ pair whole_time whole_energy
    step-whole = rest-adds net k step.fits.fitting_time step.fits.fitting_energy

    rest-weighs : weight rest ≡ pair (whole_time - road_time net k) (whole_energy - road_energy net k)
    rest-weighs =
        ⊕_cancel_eq_right (weights_lawful number_lawful) (road_pair net k) (covering_spends number_lawful line step_arc rest covers ∙ sym step-whole)

    -- the rest is unbeaten
    pub step_line : Skyline (network_of net) (other_end net x k) y (pair (whole_time - road_time net k) (whole_energy - road_energy net k))
    step_line = rw rest-weighs at (rest_skyline number_lawful line step_arc rest covers)

    -- no junction before the road's other end has a walk that spends the rest
    smallest : Smallest (network_of net) (λ z. z ≡ pair whole_time whole_energy) x y (other_end net x k)
    smallest v w other = pick (dec_le other.number k) (ℕ_discrete other.number k)
      where
        ends : v ≡ other_end net x other.number
        ends = (arc_touches fits other.arc).1

        pick : Dec (other.number ≤ k) → Dec (other.number ≡ k) → other_end net x k ≤ v
        pick d (yes same) = rw (ends, same) (omega arith)
        pick (yes h) (no apart) =
            absurd (step.none_before other.number (omega arith) (arc_touches fits other.arc).0 (arc_fits other.arc w other.wanted))
        pick (no h) (no apart) =
            omega (
              arith,
              ends,
              others_rise fits x k other.number (omega arith) other.arc.stands step.at_start (arc_touches fits other.arc).0,
            )

    -- the first route of the rest, with x before it, is the first route of the whole
    pub step-route :
        (x ≡ y → ⊥) → {ks : List ℕ} →
        FirstRoute (network_of net) (other_end net x k) y (pair (whole_time - road_time net k) (whole_energy - road_energy net k)) ks →
        FirstRoute (network_of net) x y (pair whole_time whole_energy) (x ∷ ks)
    step-route apart z =
        first_step apart (first_among_same (λ w. let same = rest_of_only_arc number_lawful (network_of net) step_arc (λ n p a. one_weight fits a step_arc) step-whole (weight w) in (same.1, same.0)) z) smallest
