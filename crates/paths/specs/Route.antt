-- First routes (SCOPE 2.8).
use Rattle.std.specs.Prelude.{◌≡◌, ℕ, ◌<◌}
use mathlib.Core.List.{List, [], ◌∷◌, Memᴰ}
use Rattle.paths.specs.Figures.{Figures}
use Rattle.paths.specs.Weights.{weights}
use Rattle.paths.specs.Network.{Network, Walk, weight, junctions}

-- js stands before ks, compared from the first place on, or is ks (SCOPE 2.8)
pub data NotAfter : List ℕ → List ℕ → Type 0 where
  ended : {ks : List ℕ} → NotAfter [] ks
  smaller : {j k : ℕ} {js ks : List ℕ} → j < k → NotAfter (j ∷ js) (k ∷ ks)
  equal : {j k : ℕ} {js ks : List ℕ} → j ≡ k → NotAfter js ks → NotAfter (j ∷ js) (k ∷ ks)

-- No junction is met twice (SCOPE 2.8)
pub data NoneTwice : List ℕ → Type 0 where
  none : NoneTwice []
  next : {j : ℕ} {js : List ℕ} → (Memᴰ j js → ⊥) → NoneTwice js → NoneTwice (j ∷ js)

module _ {𝓛 : Figures} (𝓝 : Network 𝓛) where
  open weights 𝓛 use {Figure as Weight}

  -- The junctions of the first walk among those whose weight is wanted (SCOPE 2.8)
  pub record FirstAmong (Wanted : Weight → Type 0) (s t : ℕ) (js : List ℕ) : Type 0 where
    pub walk : Walk 𝓝 s t
    pub wanted : Wanted (weight walk)
    pub meets : junctions walk ≡ js
    pub first : (other : Walk 𝓝 s t) → Wanted (weight other) → NotAfter js (junctions other)

  -- The first route (SCOPE 2.8): of all paths with this weight
  abbrev pub FirstRoute : ℕ → ℕ → Weight → List ℕ → Type 0
  FirstRoute s t p js = FirstAmong (λ q. q ≡ p) s t js
