-- Concatenation at a cut (SCOPE 7.3; [FHL], theorems 2 and 3), and demand 3 over best answers.
-- In this order: skylines; legs and their sum; demand 3.
use mathlib.Core.Path.{◌≡◌, refl, sym, ap, ap₂, ◌∙◌, subst}
use mathlib.Core.Logic.{◌↔◌}
use Prim.Native.Nat.{ℕ}
use Rattle.paths.specs.Figures.{Figures, Lawful}
use Rattle.paths.specs.Weights.{weights, spent, Beats, Within, NotLater}
use Rattle.paths.specs.Network.{Network, Walk, weight}
use Rattle.paths.specs.TradeOff.{Skyline}
use Rattle.paths.specs.Answer.{Best}
use Rattle.paths.specs.Cut.{IsCut, SkylineSum, Legs, BestLegs}
use Rattle.paths.proofs.Weights.{weights_lawful, ⊑_of_eq, ⊕_mono_both, ⊕_cancel_right, part_⊑_left, beats_cast, ⊑_then_beats, not_later_trans, not_later_antisym, not_later_sum, not_later_of_eq}
use Rattle.paths.proofs.Walks.{◌then◌, split, weight_then, split-weighs, before-unbeaten, after-unbeaten}
use Rattle.paths.proofs.Covering.{TradeOffs, walk-covered}
use Rattle.paths.proofs.Answers.{best_exists}

-- beside every walk within the limit stand two answered legs that are not later
record LegsBeside {𝓛 : Figures} {𝓝 : Network 𝓛} (H : ℕ → Type 0) (limit : 𝓛.Figure) {s t : ℕ} (w : Walk 𝓝 s t) : Type 0 where
  total : (weights 𝓛).Figure
  legs : Legs 𝓝 H s t limit total
  not_later : NotLater 𝓛 total (weight w)

module _ {𝓛 : Figures} (lawful : Lawful 𝓛) where
  abbrev W : Lawful (weights 𝓛)
  W = weights_lawful lawful

  open weights 𝓛 use {Figure as Weight, ◌⊕◌, ◌⊑◌}

  infixl 60 ◌⊕◌
  infix 40 ◌⊑◌
  module _ {𝓝 : Network 𝓛} {H : ℕ → Type 0} {s t : ℕ} (cut : IsCut 𝓝 H s t) where
    -- Theorem 2: over a cut every skyline weight is a sum of two skyline weights that meet there
    pub skyline_is_sum : {p : Weight} → Skyline 𝓝 s t p → SkylineSum 𝓝 H s t p
    skyline_is_sum {p} sky =
        let met = cut sky.walk in
        let z = split sky.walk met.met in
        let e : weight (z.before then z.after) ≡ p = ap weight z.whole ∙ sky.weighs in
        let unbeaten : (other : Walk 𝓝 s t) → Beats 𝓛 (weight other) (weight (z.before then z.after)) → ⊥ = λ other b. sky.unbeaten other (beats_cast lawful refl b e) in
        record {
          at = met.at;
          inside = met.inside;
          first = weight z.before;
          second = weight z.after;
          first_skyline = before-unbeaten lawful z.before z.after unbeaten;
          second_skyline = after-unbeaten lawful z.before z.after unbeaten;
          adds = split-weighs lawful z ∙ sky.weighs;
        }

    -- Theorem 3: a sum of two skyline weights that no such sum beats is a skyline weight
    pub unbeaten_sum_is_skyline :
        TradeOffs 𝓝 s t → {p : Weight} → SkylineSum 𝓝 H s t p → ((q : Weight) → SkylineSum 𝓝 H s t q → Beats 𝓛 q p → ⊥) → Skyline 𝓝 s t p
    unbeaten_sum_is_skyline lists {p} sum unbeaten =
        record {
          walk = sum.first_skyline.walk then sum.second_skyline.walk;
          weighs =
              weight_then lawful sum.first_skyline.walk sum.second_skyline.walk
              ∙ ap₂ ◌⊕◌ sum.first_skyline.weighs sum.second_skyline.weighs
              ∙ sum.adds;
          unbeaten = λ other b. let c = walk-covered lawful lists.is_trade_off other in unbeaten c.entry (skyline_is_sum (lists.is_trade_off.real c.member)) (⊑_then_beats lawful c.has b);
        }

  module _ {𝓝 : Network 𝓛} {H : ℕ → Type 0} {s t : ℕ} {limit : 𝓛.Figure} where
    -- the two legs, one after the other, are a walk within the whole limit
    legs-walk : {p : Weight} → Legs 𝓝 H s t limit p → Walk 𝓝 s t
    legs-walk legs = legs.first_leg.walk then legs.second_leg.walk

    legs-weigh : {p : Weight} (legs : Legs 𝓝 H s t limit p) → weight (legs-walk legs) ≡ p
    unfolding legs-walk
    legs-weigh legs =
        weight_then lawful legs.first_leg.walk legs.second_leg.walk
        ∙ ap₂ ◌⊕◌ legs.first_leg.weighs legs.second_leg.weighs
        ∙ legs.adds

    legs-within : {p : Weight} → Legs 𝓝 H s t limit p → Within 𝓛 limit p
    legs-within legs =
        rw (← legs.cuts) (rw (← (ap (spent 𝓛) legs.adds)) (⊕_mono_both lawful legs.first_leg.within legs.second_leg.within))

    module _ (cut : IsCut 𝓝 H s t) (lists : (x y : ℕ) → TradeOffs 𝓝 x y) where
      legs-beside : (w : Walk 𝓝 s t) → Within 𝓛 limit (weight w) → LegsBeside H limit w
      legs-beside w h =
          let met = cut w in
          let z = split w met.met in
          let e = split-weighs lawful z in
          let e₁ = spent 𝓛 (weight z.before) in
          let e₂ = spent 𝓛 (weight z.after) in
          let whole : 𝓛.◌⊑◌ (𝓛.◌⊕◌ e₁ e₂) limit = rw (← (ap (spent 𝓛) e)) at h in
          let part : 𝓛.◌⊑◌ e₁ limit = lawful.⊑_trans (part_⊑_left lawful e₁ e₂) whole in
          let rest : 𝓛.◌⊑◌ e₂ (lawful.left part) = ⊕_cancel_right lawful e₁ (lawful.⊑_trans whole (⊑_of_eq lawful (sym (lawful.left_adds part)))) in
          let one = best_exists lawful {limit = e₁} (lists s met.at) z.before (lawful.⊑_refl e₁) in
          let two = best_exists lawful {limit = lawful.left part} (lists met.at t) z.after rest in
          record {
            total = one.weighs ⊕ two.weighs;
            legs =
                record {
                  at = met.at;
                  inside = met.inside;
                  first_limit = e₁;
                  second_limit = lawful.left part;
                  cuts = lawful.left_adds part;
                  first = one.weighs;
                  second = two.weighs;
                  first_leg = one.best;
                  second_leg = two.best;
                  adds = refl;
                };
            not_later =
                not_later_trans lawful
                (not_later_sum lawful (one.best.least z.before (lawful.⊑_refl e₁)) (two.best.least z.after rest))
                (not_later_of_eq lawful e);
          }

      -- Demand 3: the best total of two answered legs is the best answer
      pub best_legs_answer : {p : Weight} → BestLegs 𝓝 H s t limit p → Best 𝓝 s t limit p
      best_legs_answer {p} b =
          record {
            walk = legs-walk b.legs;
            weighs = legs-weigh b.legs;
            within = legs-within b.legs;
            least = λ other h. let z = legs-beside other h in not_later_trans lawful (b.least z.total z.legs) z.not_later;
          }

      -- Demand 3: the best answer is the best total of two answered legs
      pub answer_is_best_legs : {p : Weight} → Best 𝓝 s t limit p → BestLegs 𝓝 H s t limit p
      answer_is_best_legs {p} best =
          let z = legs-beside best.walk (rw best.weighs best.within) in
          let e : z.total ≡ p = not_later_antisym lawful (rw best.weighs at z.not_later) (least z.total z.legs) in
          record { legs = subst (λ q. Legs 𝓝 H s t limit q) e z.legs; least = least }
        where
          least : (q : Weight) → Legs 𝓝 H s t limit q → NotLater 𝓛 p q
          least q legs = rw (legs-weigh legs) at (best.least (legs-walk legs) (rw (legs-weigh legs) (legs-within legs)))

      pub demand3-answered : {p : Weight} → Best 𝓝 s t limit p ↔ BestLegs 𝓝 H s t limit p
      demand3-answered = (answer_is_best_legs, best_legs_answer)

      -- SCOPE 7.3: no answer exactly where no junction and no cut give two answered legs
      pub demand3-refused : ((p : Weight) → Best 𝓝 s t limit p → ⊥) ↔ ((p : Weight) → Legs 𝓝 H s t limit p → ⊥)
      demand3-refused = (
        (λ none p legs. let z = best_exists lawful {limit = limit} (lists s t) (legs-walk legs) (rw (legs-weigh legs) (legs-within legs)) in none z.weighs z.best),
        λ none p best. let z = legs-beside best.walk (rw best.weighs best.within) in none z.total z.legs,
      )
