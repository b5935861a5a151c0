-- Forests and the junctions where two branches meet (SCOPE 2.4, 2.5; [QHL]: tree decomposition, hoplinks).
use Rattle.std.specs.Prelude.{◌≡◌, ◌⊎◌, ℕ, zero, suc}
use Rattle.std.proofs.Math.Option.{Option, none, some}
use Rattle.paths.specs.Figures.{Figures}
use Rattle.paths.specs.Weights.{weights}
use Rattle.paths.specs.Network.{Network}

-- Each junction's parent, none for a root (SCOPE 2.4)
abbrev pub Parents : Type 0
Parents = ℕ → Option ℕ

module _ (parent : Parents) where
  -- u is a proper ancestor of v (SCOPE 2.4): the parent chain of v meets u
  pub data Above (u : ℕ) : ℕ → Type 0 where
    parent_is : {v : ℕ} → parent v ≡ some u → Above u v
    parent_has : {v w : ℕ} → parent v ≡ some w → Above u w → Above u v

  -- u is v or a proper ancestor of v (SCOPE 2.4)
  abbrev pub Ancestor : ℕ → ℕ → Type 0
  Ancestor u v = (u ≡ v) ⊎ Above u v

  -- How deep v stands, a root at 0 (SCOPE 2.4)
  pub data Depth : ℕ → ℕ → Type 0 where
    root : {v : ℕ} → parent v ≡ none → Depth v zero
    child : {v w d : ℕ} → parent v ≡ some w → Depth w d → Depth v (suc d)

  -- 15 (SCOPE 4.2), a chain of parents that comes back: it meets a junction that is its own proper ancestor
  pub record Returns (v : ℕ) : Type 0 where
    pub at : ℕ
    pub met : Ancestor at v
    pub again : Above at at

  -- A forest (SCOPE 2.4): every chain of parents ends at a root
  pub record IsForest : Type 0 where
    pub depth : ℕ → ℕ
    pub ends : (v : ℕ) → Depth v (depth v)

  -- One of the two is an ancestor of the other (SCOPE 2.5)
  abbrev pub Related : ℕ → ℕ → Type 0
  Related x y = Ancestor x y ⊎ Ancestor y x

  -- A common ancestor of two junctions (SCOPE 2.5)
  pub record Common (s t u : ℕ) : Type 0 where
    pub of_start : Ancestor u s
    pub of_finish : Ancestor u t

  -- The deepest common ancestor of two junctions (SCOPE 2.5)
  pub record Deepest (s t l : ℕ) : Type 0 where
    pub common : Common s t l
    pub below_all : (u : ℕ) → Common s t u → Ancestor u l

module _ {𝓛 : Figures} (𝓝 : Network 𝓛) (parent : Parents) where
  open weights 𝓛 use {Figure as Weight}
  open 𝓝 use {Arc}

  -- 16 (SCOPE 4.2) over the whole network: the ends of each road are ancestor and descendant
  pub record RoadsJoinRelated : Type 0 where
    pub joined : {x y r : ℕ} {w : Weight} → Arc x y r w → Related parent x y

  -- h has a road to c or to something below it (SCOPE 2.5); a one-way road counts in either direction
  pub record RoadInto (h c : ℕ) : Type 0 where
    pub end : ℕ
    pub below : Ancestor parent c end
    pub number : ℕ
    pub weighs : Weight
    pub arc : Arc h end number weighs ⊎ Arc end h number weighs

  -- The working set of v (SCOPE 2.5): v, and those of its proper ancestors that have a road to v or to something below it
  pub data WorkingSet (v : ℕ) : ℕ → Type 0 where
    itself : {h : ℕ} → h ≡ v → WorkingSet v h
    crossing : {h : ℕ} → Above parent h v → RoadInto h v → WorkingSet v h

  -- The hoplinks of two junctions (SCOPE 2.5): the working set of where their branches meet
  pub record Hoplink (s t h : ℕ) : Type 0 where
    pub deepest : ℕ
    pub is_deepest : Deepest parent s t deepest
    pub start_no_ancestor : Ancestor parent s t → ⊥
    pub finish_no_ancestor : Ancestor parent t s → ⊥
    pub meeting : WorkingSet deepest h
