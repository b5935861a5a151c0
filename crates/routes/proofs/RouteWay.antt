-- A route is written junction by junction: what stands so far, with any first route of the rest behind it, is the first route of the whole.
-- In this order: walks on the map; the way so far; its start, its room, one more junction, its end.
use mathlib.Core.Path.{◌≡◌, refl, ap, ap₂, ◌∙◌}
use mathlib.Core.Logic.{⊎_elim}
use mathlib.Core.List.Memᴰ
use mathlib.Core.List.{List, [], ◌∷◌, ◌++◌, Memᴰ}
use Prim.Native.Nat.{ℕ, suc, ◌+◌, ◌-◌, ◌≤◌, ◌<◌}
use native.Mathlib.Omega.{arith}
use lib.ListN.{length, take, set, length-append, length-set}
use lib.Seq.{length-take-le, take-suc-set, append_snoc}
use Rattle.paths.specs.Weights.{weights, energy, pair}
use Rattle.paths.specs.Network.{Walk, stay, go, weight, junctions}
use Rattle.paths.specs.TradeOff.{Skyline}
use Rattle.paths.specs.Route.{FirstRoute}
use Rattle.paths.proofs.Figures.{number_lawful}
use Rattle.paths.proofs.Weights.{weights_lawful, unbeaten-below}
use Rattle.paths.proofs.Route.{visits_once_short, unbeaten_visits_once}
use Rattle.paths.proofs.RouteStep.{stay-route}
use Rattle.network.specs.NetworkFile.{junctions_of, road_time, road_energy, network_of}
use Rattle.network.specs.working.Roads.{other_end}
use Rattle.network.specs.working.Fits.{NetworkFits}
use Rattle.network.proofs.Arcs.{arc_on_map}
use Rattle.network.proofs.RoadsAt.{other_on_map}
use Rattle.paths.specs.declared.pair.Pair.{Pair}
use Rattle.reaching.specs.working.Reach.{weight_of}
use Rattle.routes.specs.working.Steps.{RoadPair, StepRoad}
use Rattle.routes.specs.working.Written.{RouteFound}
use Rattle.routes.proofs.RouteSteps.{LeftAfter, step_arc, step-whole, step_line, step-route}

-- ---- Walks on the map

-- a walk from a junction meets junctions
walk_on_map :
    {net : List ℕ} → NetworkFits net → {x y : ℕ} → x < junctions_of net → (w : Walk (network_of net) x y) → (j : ℕ) → Memᴰ j (junctions w) →
    j < junctions_of net
unfolding junctions
walk_on_map fits on_map stay j m = ⊎_elim (λ e. omega arith) (λ later. absurd (Memᴰ.not-nil later)) (Memᴰ.cases_cons m)
walk_on_map fits on_map (go a rest) j m =
    ⊎_elim (λ e. omega arith) (λ later. walk_on_map fits (arc_on_map fits a).1 rest j later) (Memᴰ.cases_cons m)

-- and one at least
walk_meets : {net : List ℕ} {x y : ℕ} (w : Walk (network_of net) x y) → 1 ≤ length (junctions w)
unfolding junctions
walk_meets stay = omega arith
walk_meets (go a rest) = omega arith

-- a junction alone is an unbeaten path to itself, and nothing else is
pub alone-spends-none : {net : List ℕ} {y : ℕ} {p : (weights energy).Figure} → Skyline (network_of net) y y p → (weights energy).𝟘 ≡ p
unfolding weight
alone-spends-none {p = p} line = unbeaten-below number_lawful ((weights_lawful number_lawful).𝟘_least p) (line.unbeaten stay)

-- ---- The way so far

-- A walk from x to y that spends the pair and meets the junctions js
pub record Carried (net : List ℕ) (x y : ℕ) (whole : Pair) (js : List ℕ) : Type 0 where
  pub walk : Walk (network_of net) x y
  pub weighs : weight walk ≡ weight_of whole
  pub meets : junctions walk ≡ js

-- The first `count` places of `met` lead from x to `here`, from where what is left is to be spent
pub record OnWay (net : List ℕ) (x y : ℕ) (whole : Pair) (met : List ℕ) (count here : ℕ) (left : Pair) : Type 0 where
  pub start_on_map : x < junctions_of net
  pub unbeaten : Skyline (network_of net) x y (weight_of whole)
  pub on_map : here < junctions_of net
  pub few : count ≤ 1024
  pub places : length met ≡ 1024
  pub line : Skyline (network_of net) here y (weight_of left)
  pub goes_on : (ks : List ℕ) → FirstRoute (network_of net) here y (weight_of left) ks → FirstRoute (network_of net) x y (weight_of whole) (take count met ++ ks)
  pub carries : (w : Walk (network_of net) here y) → weight w ≡ weight_of left → Carried net x y whole (take count met ++ junctions w)

-- nothing is written yet
pub way_start :
    {net : List ℕ} {x y : ℕ} {whole : Pair} {met : List ℕ} → x < junctions_of net → Skyline (network_of net) x y (weight_of whole) →
    length met ≡ 1024 → OnWay net x y whole met 0 x whole
way_start on_map line places =
    record {
      start_on_map = on_map;
      unbeaten = line;
      on_map = on_map;
      few = omega arith;
      places = places;
      line = line;
      goes_on = λ ks route. route;
      carries = λ w e. record { walk = w; weighs = e; meets = refl };
    }

-- one more junction stands before what follows
written-more : (met : List ℕ) (count v : ℕ) (ks : List ℕ) → count < length met → take (count + 1) (set met count v) ++ ks ≡ take count met ++ (v ∷ ks)
written-more met count v ks h = rw (one_more, take-suc-set met count v h) (append_snoc (take count met) v ks)
  where
    one_more : count + 1 ≡ suc count
    one_more = omega arith

module _ {net : List ℕ} (fits : NetworkFits net) {x y : ℕ} {whole : Pair} {met : List ℕ} {count here : ℕ} {left : Pair}
    (now : OnWay net x y whole met count here left) where
  -- an unbeaten walk visits no junction twice, so there is room for one more
  pub way_room : count < 1024
  way_room =
      let z = now.carries now.line.walk now.line.weighs in
      let once = unbeaten_visits_once number_lawful z.walk (λ other b. now.unbeaten.unbeaten other (rw z.weighs at b)) in
      let short : length (junctions z.walk) ≤ junctions_of net = visits_once_short (junctions_of net) once (walk_on_map fits now.start_on_map z.walk) in
      let long : length (junctions z.walk) ≡ length (take count met) + length (junctions now.line.walk) = ap length z.meets ∙ length-append (take count met) (junctions now.line.walk) in
      let so_far : length (take count met) ≡ count = length-take-le count met (omega (arith, now.places, now.few)) in
      omega (arith, walk_meets now.line.walk, fits.few_junctions)

  -- one junction more
  pub way_more :
      {k next : ℕ} {takes left' : Pair} → (here ≡ y → ⊥) → StepRoad net here y k left.time.0 left.energy.0 → next ≡ other_end net here k →
      RoadPair net k takes → LeftAfter left takes left' → OnWay net x y whole (set met count here) (count + 1) next left'
  unfolding weight junctions
  way_more {k} {left' = left'} apart step e read rest =
      rw e (
      record {
        start_on_map = now.start_on_map;
        unbeaten = now.unbeaten;
        on_map = other_on_map fits here k step.stands step.at_start;
        few = omega (arith, way_room);
        places = simp length-set now.places;
        line = rw left_is (step_line fits now.line step);
        goes_on = λ ks route. rw (written-more met count here ks in_room) (now.goes_on (here ∷ ks) (step-route fits now.line step apart (rw left_is at route)));
        carries = λ w spent.
            rw (written-more met count here (junctions w) in_room)
            (now.carries (go (step_arc fits now.line step) w) (ap (λ q. (weights energy).◌⊕◌ (pair (road_time net k) (road_energy net k)) q) (spent ∙ left_is) ∙ step-whole fits now.line step));
      })
    where
      in_room : count < length met
      in_room = omega (arith, way_room, now.places)

      left_is : weight_of left' ≡ pair (left.time.0 - road_time net k) (left.energy.0 - road_energy net k)
      left_is = ap₂ pair (omega (arith, rest.0, read.time_is)) (omega (arith, rest.1, read.energy_is))

  -- time falls with every road
  pub way_less :
      {k : ℕ} {takes left' : Pair} → StepRoad net here y k left.time.0 left.energy.0 → RoadPair net k takes → LeftAfter left takes left' → left'.time.0 < left.time.0
  way_less {k} step read rest = omega (arith, fits.takes_time k step.stands, step.fits.fitting_time, read.time_is, rest.0)

  -- and every road that is taken fits
  pub way_fits : {k : ℕ} {takes : Pair} → StepRoad net here y k left.time.0 left.energy.0 → RoadPair net k takes → (takes.time.0 ≤ left.time.0) × (takes.energy.0 ≤ left.energy.0)
  way_fits step read = (rw read.time_is step.fits.fitting_time, rw read.energy_is step.fits.fitting_energy)

  -- at y nothing is left to spend, and y ends the route
  pub way_end : here ≡ y → RouteFound net x y (weight_of whole) (count + 1) (set met count y)
  way_end e =
      record {
        room = simp length-set (omega (arith, way_room, now.places));
        first = rw (one_more, take-suc-set met count y (omega (arith, way_room, now.places))) (now.goes_on (y ∷ []) last);
      }
    where
      one_more : count + 1 ≡ suc count
      one_more = omega arith

      last : FirstRoute (network_of net) here y (weight_of left) (y ∷ [])
      last = rw (e, ← alone-spends-none (rw e at now.line)) (stay-route (network_of net) y)
