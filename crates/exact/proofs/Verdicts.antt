-- The tests of the sweep decide whether every list is right.
-- In this order: the lists for one junction; all junctions.
use mathlib.Core.Path.{◌≡◌, sym}
use mathlib.Core.Bool.{Bool, true, false, false≢true}
use mathlib.Core.List.{List}
use Prim.Native.Nat.{ℕ, ◌+◌, ◌≤◌, ◌<◌}
use native.Mathlib.Decide.{ℕ_discrete}
use native.Mathlib.Omega.{arith}
use lib.ListN.{length, get_or}
use Rattle.paths.specs.Forest.{Above}
use Rattle.network.specs.NetworkFile.{junctions_of}
use Rattle.network.specs.working.Roads.{Grouped}
use Rattle.refusals.specs.working.Decides.{Decides}
use Rattle.forest.specs.LabelFile.{parents_of}
use Rattle.forest.proofs.Forest.{above_at}
use Rattle.stored.specs.working.Formed.{FilesFit}
use Rattle.stored.specs.Right.{EveryListRight}
use Rattle.stored.proofs.Passed.{below_on_map}
use Rattle.agree.proofs.Exactness.{agreeing_is_right}
use Rattle.preorder.specs.working.Numbered.{Numbered, junction_at, spot_of}
use Rattle.agree.specs.working.Agreeing.{PlacesFor, AgreeInput}
use Rattle.exact.specs.working.Sweep.{Agrees, AgreesBelow, BlockOf}

-- a statement that holds is decided by true, one that does not by false
decided_yes : {P : Type 0} → P → Decides P true
decided_yes p = record { holds = λ e. p; fails = λ e q. false≢true (sym e) }

decided_no : {P : Type 0} → (P → ⊥) → Decides P false
decided_no n = record { holds = λ e. absurd (false≢true e); fails = λ e p. n p }

-- ---- The lists for one junction

-- The lists for u of the first k junctions of the block agree
pub record AgreedTo (net labels block : List ℕ) (u k : ℕ) : Type 0 where
  pub so_far : (j : ℕ) → j < k → Agrees net labels (get_or block j 0) u

module _ {net labels block : List ℕ} {u : ℕ} (block_of : BlockOf labels u block) where
  module _ {k : ℕ} (agreed : AgreedTo net labels block u k) (more : k < length block) where
    -- the next list may be tested
    pub may_test :
        {tables places : List ℕ} → FilesFit net labels → Grouped net tables → PlacesFor labels u places →
        AgreeInput net labels tables places (get_or block k 0) u
    may_test beside grouped places =
        let above : Above (parents_of labels) u (get_or block k 0) = block_of.below k more in
        record { beside = beside; grouped = grouped; places_for = places; on_map = below_on_map labels above; above = above }

    module _ {r : Bool} (decides : Decides (Agrees net labels (get_or block k 0) u) r) where
      -- it agrees
      pub agreed_more : r ≡ true → AgreedTo net labels block u (k + 1)
      agreed_more passed = record { so_far = λ j to. pick j to (ℕ_discrete j k) }
        where
          pick : (j : ℕ) → j < k + 1 → Dec (j ≡ k) → Agrees net labels (get_or block j 0) u
          pick j to (yes e) = rw e (decides.holds passed)
          pick j to (no apart) = agreed.so_far j (omega arith)

  -- with nothing below u there is nothing to agree
  pub agreed_alone : length block ≡ 0 → Decides (AgreesBelow net labels u) true
  agreed_alone none = decided_yes (record { agrees = λ {v} above. let (j, inside, is) = block_of.all v above in absurd (omega arith) })

-- ---- All junctions

-- The lists for the junctions from spot i on agree
pub record AgreedFrom (net labels tables : List ℕ) (i : ℕ) : Type 0 where
  pub so_far : (j : ℕ) → i ≤ j → j < junctions_of labels → AgreesBelow net labels (junction_at tables j)

module _ {net labels : List ℕ} (beside : FilesFit net labels) {tables : List ℕ} (numbered : Numbered labels tables) where
  -- before the first
  pub from_none : {n : ℕ} → n ≡ junctions_of labels → AgreedFrom net labels tables n
  from_none n-is = record { so_far = λ j from to. absurd (omega arith) }

  module _ (i : ℕ) {r : Bool} (agreed : AgreedFrom net labels tables (i + 1)) (decides : Decides (AgreesBelow net labels (junction_at tables i)) r) where
    -- after one that agrees
    pub from_more : r ≡ true → AgreedFrom net labels tables i
    from_more passed = record { so_far = λ j from to. pick j from to (ℕ_discrete j i) }
      where
        pick : (j : ℕ) → i ≤ j → j < junctions_of labels → Dec (j ≡ i) → AgreesBelow net labels (junction_at tables j)
        pick j from to (yes e) = rw e (decides.holds passed)
        pick j from to (no apart) = agreed.so_far j (omega arith) to

    -- at one that does not
    pub from_fails : r ≡ false → Decides (EveryListRight net labels) false
    from_fails failed =
        decided_no
        (λ right.
        decides.fails failed (record { agrees = λ above. ((agreeing_is_right beside).1 right).agrees above }))

  -- after the last
  pub from_all : {i : ℕ} → AgreedFrom net labels tables i → i ≤ 0 → Decides (EveryListRight net labels) true
  from_all agreed over = decided_yes ((agreeing_is_right beside).0 (record { agrees = λ {v} {u} above. each v u above }))
    where
      each : (v u : ℕ) → Above (parents_of labels) u v → Agrees net labels v u
      each v u above =
          let on_map = (above_at beside.formed.parents above).on_map in
          (rw (numbered.at_spot u on_map) at (agreed.so_far (spot_of tables u) (omega arith) (numbered.spot_below u on_map))).agrees above
