-- Trade-off lists and joins (SCOPE 2.3, 2.6; [FHL]: skyline paths).
use Rattle.std.specs.Prelude.{◌≡◌, ℕ, ◌<◌}
use mathlib.Core.List.{List, [], ◌∷◌, Memᴰ}
use Rattle.paths.specs.Figures.{Figures}
use Rattle.paths.specs.Weights.{weights, energy, time, spent, Beats, Rising}
use Rattle.paths.specs.Network.{Network, Walk, weight}

module _ {𝓛 : Figures} (𝓝 : Network 𝓛) where
  open weights 𝓛 use {Figure as Weight}

  -- An unbeaten weight (SCOPE 2.3): a path has it, and no path's weight beats it
  pub record Skyline (s t : ℕ) (p : Weight) : Type 0 where
    pub walk : Walk 𝓝 s t
    pub weighs : weight walk ≡ p
    pub unbeaten : (other : Walk 𝓝 s t) → Beats 𝓛 (weight other) p → ⊥

  -- The trade-off list of s and t (SCOPE 2.3): the unbeaten weights of their paths, each once, in order
  pub record IsTradeOff (s t : ℕ) (l : List Weight) : Type 0 where
    pub rising : Rising 𝓛 l
    pub real : {p : Weight} → Memᴰ p l → Skyline s t p
    pub complete : {p : Weight} → Skyline s t p → Memᴰ p l

module _ (𝓛 : Figures) where
  open weights 𝓛 use {Figure as Weight, ◌⊕◌}

  infixl 60 ◌⊕◌
  -- A sum of an entry of k and an entry of l (SCOPE 2.6)
  pub record IsSum (k l : List Weight) (p : Weight) : Type 0 where
    pub left : Weight
    pub right : Weight
    pub in_first : Memᴰ left k
    pub in_second : Memᴰ right l
    pub adds : left ⊕ right ≡ p

  -- One that no such sum beats (SCOPE 2.6)
  pub record UnbeatenSum (k l : List Weight) (p : Weight) : Type 0 where
    pub sum : IsSum k l p
    pub unbeaten : (q : Weight) → IsSum k l q → Beats 𝓛 q p → ⊥

  -- The join of two lists (SCOPE 2.6)
  pub record IsJoin (k l r : List Weight) : Type 0 where
    pub rising : Rising 𝓛 r
    pub real : {p : Weight} → Memᴰ p r → UnbeatenSum k l p
    pub complete : {p : Weight} → UnbeatenSum k l p → Memᴰ p r

-- With energy as the one limited figure (SCOPE 2.3), energy rises and time falls: the order in which files and calls hold a list. `proofs/OneLimit.antt` shows that trade-off lists and joins have it.
pub data Ordered : List (weights energy).Figure → Type 0 where
  none : Ordered []
  one : {p : (weights energy).Figure} → Ordered (p ∷ [])
  more :
      {p q : (weights energy).Figure} {l : List (weights energy).Figure} →
      spent energy p < spent energy q →
      time energy q < time energy p →
      Ordered (q ∷ l) →
      Ordered (p ∷ q ∷ l)
