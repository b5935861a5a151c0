-- The local test of stored lists: a list agrees, road by road of its junction, with the lists one road further.
use Rattle.std.specs.Prelude.{◌≡◌, ℕ}
use mathlib.Core.List.{List, Memᴰ}
use Rattle.paths.specs.Figures.{Figures}
use Rattle.paths.specs.Weights.{weights, Covered}
use Rattle.paths.specs.Network.{Network}
use Rattle.paths.specs.Forest.{Parents, Above}

module _ {𝓛 : Figures} (𝓝 : Network 𝓛) (parent : Parents) (stored : ℕ → ℕ → List (weights 𝓛).Figure) where
  open weights 𝓛 use {Figure as Weight, ◌⊕◌, 𝟘}

  infixl 60 ◌⊕◌
  -- q is an entry of the list of w and u, wherever that is stored (SCOPE 3.3); where w is u, it is 𝟘 alone
  pub data Rest (w u : ℕ) (q : Weight) : Type 0 where
    arrived : w ≡ u → q ≡ 𝟘 → Rest w u q
    below : Above parent u w → Memᴰ q (stored w u) → Rest w u q
    above : Above parent w u → Memᴰ q (stored u w) → Rest w u q

  -- p is a road's weight from v and an entry of what is left to u (SCOPE 2.9: nothing invented)
  pub record MetFrom (v u : ℕ) (p : Weight) : Type 0 where
    pub to : ℕ
    pub number : ℕ
    pub road : Weight
    pub arc : 𝓝.Arc v to number road
    pub rest : Weight
    pub left : Rest to u rest
    pub adds : road ⊕ rest ≡ p

  -- The test of the stored list of v and its proper ancestor u, which all pass exactly if all are right (SCOPE 4.4)
  pub record ListAgrees (v u : ℕ) : Type 0 where
    pub covers : {w r : ℕ} {a q : Weight} → 𝓝.Arc v w r a → Rest w u q → Covered 𝓛 (stored v u) (a ⊕ q)
    pub met : {p : Weight} → Memᴰ p (stored v u) → MetFrom v u p
