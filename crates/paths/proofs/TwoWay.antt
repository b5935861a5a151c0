-- Two-way networks: a walk can be walked back for the same weight, so a pair's trade-off list serves both directions.
use mathlib.Core.Path.{refl, ap, ◌∙◌}
use Prim.Native.Nat.{ℕ}
use mathlib.Core.List.{List}
use Rattle.paths.specs.Figures.{Figures, Lawful}
use Rattle.paths.specs.Weights.{weights}
use Rattle.paths.specs.Network.{Network, Walk, stay, go, weight}
use Rattle.paths.specs.TradeOff.{Skyline, IsTradeOff}
use Rattle.paths.proofs.Weights.{weights_lawful}
use Rattle.paths.proofs.Walks.{WalkOf, ◌then◌, single, weight_then, weight_one}

-- every arc has its reverse, with the same record and weight
pub record TwoWay {𝓛 : Figures} (𝓝 : Network 𝓛) : Type 0 where
  pub back : {x y r : ℕ} {w : (weights 𝓛).Figure} → 𝓝.Arc x y r w → 𝓝.Arc y x r w

module _ {𝓛 : Figures} (lawful : Lawful 𝓛) {𝓝 : Network 𝓛} (two_way : TwoWay 𝓝) where
  -- a walk back has the weight of the walk
  pub walked_back : {s t : ℕ} (w : Walk 𝓝 s t) → WalkOf 𝓝 t s (weight w)
  unfolding weight
  walked_back stay = record { walk = stay; weighs = refl }
  walked_back (go {w = p} a k) =
      let z = walked_back k in
      let last = single 𝓝 (two_way.back a) in
      record {
        walk = z.walk then last;
        weighs =
            weight_then lawful z.walk last
            ∙ ap (λ q. (weights 𝓛).◌⊕◌ q (weight last)) z.weighs
            ∙ ap (λ q. (weights 𝓛).◌⊕◌ (weight k) q) (weight_one lawful 𝓝 (two_way.back a))
            ∙ (weights_lawful lawful).⊕_comm (weight k) p;
      }

  pub skyline_back : {s t : ℕ} {p : (weights 𝓛).Figure} → Skyline 𝓝 s t p → Skyline 𝓝 t s p
  skyline_back sky =
      let z = walked_back sky.walk in
      record {
        walk = z.walk;
        weighs = z.weighs ∙ sky.weighs;
        unbeaten = λ other b. let y = walked_back other in sky.unbeaten y.walk (rw y.weighs b);
      }

  -- the trade-off list of s and t is that of t and s
  pub trade_off_back : {s t : ℕ} {l : List (weights 𝓛).Figure} → IsTradeOff 𝓝 s t l → IsTradeOff 𝓝 t s l
  trade_off_back right =
      record {
        rising = right.rising;
        real = λ m. skyline_back (right.real m);
        complete = λ sky. right.complete (skyline_back sky);
      }
