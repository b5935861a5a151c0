-- Figures: what a road costs besides time, and how such costs add up and compare.
--
-- One limited figure is served, energy (SCOPE 1.3); a second one, tolls, stands beside it in one product. Everything above this file
-- is stated over any `Figures`, so the number of limits is chosen once, where an instance is named.
use Rattle.std.specs.Prelude.{◌≡◌, ◌⊎◌, ℕ, ◌+◌, ◌≤◌, ◌<◌}

-- A kind of figure (SCOPE 1.3): its sum, its nothing, and two orders
pub record Figures : Type 1 where
  infixl 60 ◌⊕◌
  infix 40 ◌⊑◌
  infix 40 ◌≺◌
  pub Figure : Type 0
  pub ◌⊕◌ : Figure → Figure → Figure
  pub 𝟘 : Figure
  -- no larger in any number
  pub ◌⊑◌ : Figure → Figure → Type 0
  -- stands earlier in a list
  pub ◌≺◌ : Figure → Figure → Type 0

-- One number (SCOPE 1.3): energy, tolls or seconds
abbrev pub number : Figures
number = record { Figure = ℕ; ◌⊕◌ = ◌+◌; 𝟘 = 0; ◌⊑◌ = ◌≤◌; ◌≺◌ = ◌<◌ }

-- Two figures at once (SCOPE 2.1)
pub record Both (A B : Type 0) : Type 0 where
  pub first : A
  pub second : B

-- In the order of the first figure, equal ones by the second (SCOPE 2.3)
pub data FirstThenSecond (𝓐 𝓑 : Figures) (p q : Both 𝓐.Figure 𝓑.Figure) : Type 0 where
  by_first : 𝓐.◌≺◌ p.first q.first → FirstThenSecond 𝓐 𝓑 p q
  by_second : p.first ≡ q.first → 𝓑.◌≺◌ p.second q.second → FirstThenSecond 𝓐 𝓑 p q

-- Two figures side by side: added and compared each for itself, listed by the first and then by the second
infixr 50 ◌and◌
abbrev pub ◌and◌ : Figures → Figures → Figures
𝓐 and 𝓑 =
    record {
      Figure = Both 𝓐.Figure 𝓑.Figure;
      ◌⊕◌ = λ p q. record { first = 𝓐.◌⊕◌ p.first q.first; second = 𝓑.◌⊕◌ p.second q.second };
      𝟘 = record { first = 𝓐.𝟘; second = 𝓑.𝟘 };
      ◌⊑◌ = λ p q. 𝓐.◌⊑◌ p.first q.first × 𝓑.◌⊑◌ p.second q.second;
      ◌≺◌ = FirstThenSecond 𝓐 𝓑;
    }

module _ (𝓕 : Figures) where
  open 𝓕 use {Figure, ◌⊕◌, 𝟘, ◌⊑◌, ◌≺◌}

  infixl 60 ◌⊕◌
  infix 40 ◌⊑◌
  infix 40 ◌≺◌
  -- The laws of sums and orders that SCOPE 2 takes for granted, and the theory rests on. Nothing asks that a figure is positive.
  pub record Lawful : Type 0 where
    pub ⊕_assoc : (a b c : Figure) → (a ⊕ b) ⊕ c ≡ a ⊕ (b ⊕ c)
    pub ⊕_comm : (a b : Figure) → a ⊕ b ≡ b ⊕ a
    pub ⊕_unit : (a : Figure) → a ⊕ 𝟘 ≡ a
    pub ⊑_refl : (a : Figure) → a ⊑ a
    pub ⊑_trans : {a b c : Figure} → a ⊑ b → b ⊑ c → a ⊑ c
    pub ⊑_antisym : {a b : Figure} → a ⊑ b → b ⊑ a → a ≡ b
    pub ⊑_decide : (a b : Figure) → Dec (a ⊑ b)
    pub 𝟘_least : (a : Figure) → 𝟘 ⊑ a
    pub ⊕_mono : {a b : Figure} (c : Figure) → a ⊑ b → a ⊕ c ⊑ b ⊕ c
    pub ⊕_cancel : {a b : Figure} (c : Figure) → a ⊕ c ⊑ b ⊕ c → a ⊑ b
    -- what is left of b when a is taken from it
    pub left : {a b : Figure} → a ⊑ b → Figure
    pub left_adds : {a b : Figure} (h : a ⊑ b) → a ⊕ left h ≡ b
    pub ≺_irrefl : {a b : Figure} → a ≺ b → a ≡ b → ⊥
    pub ≺_trans : {a b c : Figure} → a ≺ b → b ≺ c → a ≺ c
    pub ≺_compare : (a b : Figure) → (a ≺ b) ⊎ ((a ≡ b) ⊎ (b ≺ a))
    pub ≺_mono : {a b : Figure} (c : Figure) → a ≺ b → a ⊕ c ≺ b ⊕ c
    -- what is smaller in some number and larger in none stands earlier
    pub ⊑_earlier : {a b : Figure} → a ⊑ b → (a ≡ b → ⊥) → a ≺ b
    -- a measure that falls with the numbers
    pub size : Figure → ℕ
    pub size_falls : {a b : Figure} → a ⊑ b → (a ≡ b → ⊥) → size a < size b
