-- Networks and paths (SCOPE 2.1; [QHL], section 2).
--
-- A network has directed arcs, each with the number of the record it comes from. A two-way road is two arcs with one record
-- number; parallel roads are arcs that share both ends.
use mathlib.Core.List.{List, [], ◌∷◌, Memᴰ}
use Rattle.std.specs.Prelude.{ℕ, ◌≤◌}
use Rattle.paths.specs.Figures.{Figures}
use Rattle.paths.specs.Weights.{weights, time}

-- A network (SCOPE 2.1, 3.2)
pub record Network (𝓛 : Figures) : Type 1 where
  -- from, to, record number, weight
  pub Arc : ℕ → ℕ → ℕ → (weights 𝓛).Figure → Type 0
  -- each arc takes at least one second; its limited figures may be 0
  pub takes_time : {x y r : ℕ} {w : (weights 𝓛).Figure} → Arc x y r w → 1 ≤ time 𝓛 w

-- An arc with its ends, as data (SCOPE 3.2)
pub record Hop (𝓛 : Figures) : Type 0 where
  pub from : ℕ
  pub to : ℕ
  pub number : ℕ
  pub weighs : (weights 𝓛).Figure

module _ {𝓛 : Figures} (𝓝 : Network 𝓛) where
  open weights 𝓛 use {Figure as Weight}
  open 𝓝 use {Arc}

  -- A path (SCOPE 2.1): roads walked one after another, none at all for a junction alone
  pub data Walk : ℕ → ℕ → Type 0 where
    stay : {s : ℕ} → Walk s s
    go : {s v t r : ℕ} {w : Weight} → Arc s v r w → Walk v t → Walk s t

  -- A network of finitely many arcs (SCOPE 3.1 bounds their number): they stand in a list
  pub record Finite : Type 0 where
    pub hops : List (Hop 𝓛)
    pub real : (h : Hop 𝓛) → Memᴰ h hops → Arc h.from h.to h.number h.weighs
    pub listed :
        {x y r : ℕ} {w : Weight} → Arc x y r w → Memᴰ (record { from = x; to = y; number = r; weighs = w }) hops

module _ {𝓛 : Figures} {𝓝 : Network 𝓛} where
  -- Its weight (SCOPE 2.1): the sum over its roads, zero where there are none
  unfoldable pub weight : {s t : ℕ} → Walk 𝓝 s t → (weights 𝓛).Figure
  weight stay = (weights 𝓛).𝟘
  weight (go {w = w} a rest) = (weights 𝓛).◌⊕◌ w (weight rest)

  -- The junctions met, from s to t (SCOPE 2.8)
  unfoldable pub junctions : {s t : ℕ} → Walk 𝓝 s t → List ℕ
  junctions (stay {s}) = s ∷ []
  junctions (go {s} a rest) = s ∷ junctions rest

  -- The records used, one fewer than the junctions (SCOPE 3.2)
  unfoldable pub records : {s t : ℕ} → Walk 𝓝 s t → List ℕ
  records stay = []
  records (go {r = r} a rest) = r ∷ records rest
