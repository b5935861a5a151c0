-- Sets that meet every path, and the legs that join there (SCOPE 7.3; [FHL], theorems 2 and 3).
use Rattle.std.specs.Prelude.{◌≡◌, ℕ}
use mathlib.Core.List.{Memᴰ}
use Rattle.paths.specs.Figures.{Figures}
use Rattle.paths.specs.Weights.{weights, NotLater}
use Rattle.paths.specs.Network.{Network, Walk, junctions}
use Rattle.paths.specs.TradeOff.{Skyline}
use Rattle.paths.specs.Answer.{Best}

module _ {𝓛 : Figures} (𝓝 : Network 𝓛) (H : ℕ → Type 0) where
  open weights 𝓛 use {Figure as Weight, ◌⊕◌}

  infixl 60 ◌⊕◌
  -- A junction of H on the way (SCOPE 7.3)
  pub record Meets {s t : ℕ} (w : Walk 𝓝 s t) : Type 0 where
    pub at : ℕ
    pub inside : H at
    pub met : Memᴰ at (junctions w)

  -- H meets every path between the two (SCOPE 7.3)
  abbrev pub IsCut : ℕ → ℕ → Type 0
  IsCut s t = (w : Walk 𝓝 s t) → Meets w

  -- Concatenation at a cut (SCOPE 2.5; [FHL], theorem 2): p is the sum of a skyline weight to a junction of H and one from there
  pub record SkylineSum (s t : ℕ) (p : Weight) : Type 0 where
    pub at : ℕ
    pub inside : H at
    pub first : Weight
    pub second : Weight
    pub first_skyline : Skyline 𝓝 s at first
    pub second_skyline : Skyline 𝓝 at t second
    pub adds : first ⊕ second ≡ p

  -- Two answered legs (SCOPE 7.3): a junction of the set, and the limit cut into two whole parts
  pub record Legs (s t : ℕ) (limit : 𝓛.Figure) (p : Weight) : Type 0 where
    pub at : ℕ
    pub inside : H at
    pub first_limit : 𝓛.Figure
    pub second_limit : 𝓛.Figure
    pub cuts : 𝓛.◌⊕◌ first_limit second_limit ≡ limit
    pub first : Weight
    pub second : Weight
    pub first_leg : Best 𝓝 s at first_limit first
    pub second_leg : Best 𝓝 at t second_limit second
    pub adds : first ⊕ second ≡ p

  -- The best total of two answered legs (SCOPE 7.3), over every junction of the set and every cut of the limit
  pub record BestLegs (s t : ℕ) (limit : 𝓛.Figure) (p : Weight) : Type 0 where
    pub legs : Legs s t limit p
    pub least : (q : Weight) → Legs s t limit q → NotLater 𝓛 p q
