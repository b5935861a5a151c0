-- Weights: a road's or a path's time together with its limited figures (SCOPE 1.3, 2.1, 2.2).
use Rattle.std.specs.Prelude.{◌≡◌, ℕ, ◌<◌}
use mathlib.Core.List.{List, [], ◌∷◌, Memᴰ}
use Rattle.paths.specs.Figures.{Figures, number, ◌and◌}

-- The weights over limited figures 𝓛: listed by 𝓛's order and then by time, as pairs are listed by energy (SCOPE 2.3)
abbrev pub weights : Figures → Figures
weights 𝓛 = 𝓛 and number

-- One limited figure: energy (SCOPE 1.3)
abbrev pub energy : Figures
energy = number

-- The pair (time, energy) (SCOPE 2.1)
abbrev pub pair : ℕ → ℕ → (weights energy).Figure
pair t e = record { first = e; second = t }

-- A member of a list that has a property, as in every "some" of SCOPE 2
pub record Found {A : Type 0} (P : A → Type 0) (l : List A) : Type 0 where
  pub entry : A
  pub member : Memᴰ entry l
  pub has : P entry

module _ (𝓛 : Figures) where
  open weights 𝓛 use {Figure as Weight, ◌⊑◌, ◌≺◌}

  infix 40 ◌⊑◌
  infix 40 ◌≺◌
  -- The sum of times (SCOPE 2.1)
  abbrev pub time : Weight → ℕ
  time p = p.second

  -- What counts against a limit: the sum of energies (SCOPE 2.1, 2.7)
  abbrev pub spent : Weight → 𝓛.Figure
  spent p = p.first

  -- p beats q (SCOPE 2.2)
  pub record Beats (p q : Weight) : Type 0 where
    pub no_larger : p ⊑ q
    pub smaller : p ≡ q → ⊥

  -- Within the limit: not above it (SCOPE 2.7)
  abbrev pub Within : 𝓛.Figure → Weight → Type 0
  Within limit p = 𝓛.◌⊑◌ (spent p) limit

  -- p comes before q as an answer (SCOPE 2.7): by time, then by the limited figures
  pub data Sooner (p q : Weight) : Type 0 where
    by_time : time p < time q → Sooner p q
    by_figures : time p ≡ time q → 𝓛.◌≺◌ (spent p) (spent q) → Sooner p q

  -- As an answer q does not come before p (SCOPE 2.7)
  pub data NotLater (p q : Weight) : Type 0 where
    sooner : Sooner p q → NotLater p q
    same : p ≡ q → NotLater p q

  -- In a list's order, each once (SCOPE 2.3): every entry stands earlier than the next
  pub data Rising : List Weight → Type 0 where
    none : Rising []
    one : {p : Weight} → Rising (p ∷ [])
    more : {p q : Weight} {l : List Weight} → p ≺ q → Rising (q ∷ l) → Rising (p ∷ q ∷ l)

  -- Some entry of l covers p: p is no smaller than it, so not to be listed beside it (SCOPE 2.2)
  abbrev pub Covered : List Weight → Weight → Type 0
  Covered l p = Found (λ q. q ⊑ p) l
