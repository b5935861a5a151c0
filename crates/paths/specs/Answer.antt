-- Answers under a limit (SCOPE 2.7; numbers 22 and 23 of 4.2).
use Rattle.std.specs.Prelude.{◌≡◌, List, ℕ}
use Rattle.paths.specs.Figures.{Figures}
use Rattle.paths.specs.Weights.{weights, Within, NotLater}
use Rattle.paths.specs.Network.{Network, Walk, weight}
use Rattle.paths.specs.TradeOff.{IsSum}

module _ {𝓛 : Figures} (𝓝 : Network 𝓛) where
  open weights 𝓛 use {Figure as Weight}

  -- The best answer under the limit (SCOPE 2.7): within the limit, and no path within the limit has less time, or the same time and less energy
  pub record Best (s t : ℕ) (limit : 𝓛.Figure) (p : Weight) : Type 0 where
    pub walk : Walk 𝓝 s t
    pub weighs : weight walk ≡ p
    pub within : Within 𝓛 limit p
    pub least : (other : Walk 𝓝 s t) → Within 𝓛 limit (weight other) → NotLater 𝓛 p (weight other)

  -- 23 (SCOPE 4.2): some path, but none within the limit
  pub record Over (s t : ℕ) (limit : 𝓛.Figure) : Type 0 where
    pub walk : Walk 𝓝 s t
    pub none_within : (other : Walk 𝓝 s t) → Within 𝓛 limit (weight other) → ⊥

  -- 22 (SCOPE 4.2): no path
  abbrev pub Apart : ℕ → ℕ → Type 0
  Apart s t = Walk 𝓝 s t → ⊥

module _ (𝓛 : Figures) where
  open weights 𝓛 use {Figure as Weight}

  -- Limited join: the best sum of two lists under a limit (SCOPE 5.6)
  pub record BestSum (k l : List Weight) (limit : 𝓛.Figure) (p : Weight) : Type 0 where
    pub sum : IsSum 𝓛 k l p
    pub within : Within 𝓛 limit p
    pub least : (q : Weight) → IsSum 𝓛 k l q → Within 𝓛 limit q → NotLater 𝓛 p q

  -- Limited join's 23 (SCOPE 4.2): every sum is above the limit
  abbrev pub NoSum : List Weight → List Weight → 𝓛.Figure → Type 0
  NoSum k l limit = (p : Weight) → IsSum 𝓛 k l p → Within 𝓛 limit p → ⊥
