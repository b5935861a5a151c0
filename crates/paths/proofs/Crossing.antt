-- Where each road joins an ancestor and a descendant, a walk leaves or enters a subtree only through the junctions above its top.
-- In this order: an arc that changes sides; leaving and entering a subtree; common ancestors; branches and hoplinks.
use mathlib.Core.Path.{◌≡◌, refl}
use mathlib.Core.Logic.{◌⊎◌, inl, inr, ⊎_elim, by_cases}
use mathlib.Core.Option.{some}
use mathlib.Core.List.{Memᴰ}
use Prim.Native.Nat.{ℕ}
use Rattle.paths.specs.Figures.{Figures}
use Rattle.paths.specs.Weights.{weights}
use Rattle.paths.specs.Network.{Network, Walk, stay, go, junctions}
use Rattle.paths.specs.Answer.{Apart}
use Rattle.paths.specs.Forest.{Parents, Above, Ancestor, IsForest, Related, Common, Deepest, RoadsJoinRelated, RoadInto, WorkingSet, itself, crossing, Hoplink}
use Rattle.paths.specs.Cut.{Meets, IsCut}
use Rattle.paths.proofs.Walks.{start_met}
use Rattle.paths.proofs.Forest.{ancestor_trans, above_then_ancestor, above-child, ancestor_of_parent, ancestors_related, outside_above, child-towards, ancestor?, child_not_common}

-- ---- An arc that changes sides

module _ {𝓛 : Figures} {𝓝 : Network 𝓛} (Here There : ℕ → Type 0) where
  -- An arc on the way that leads from the one side to the other
  record Change {s t : ℕ} (w : Walk 𝓝 s t) : Type 0 where
    from : ℕ
    to : ℕ
    number : ℕ
    weighs : (weights 𝓛).Figure
    arc : 𝓝.Arc from to number weighs
    here : Here from
    there : There to
    from_met : Memᴰ from (junctions w)
    to_met : Memᴰ to (junctions w)

  -- a walk from one side to the other has such an arc
  change :
      ((x : ℕ) → Here x ⊎ There x) → ((x : ℕ) → Here x → There x → ⊥) → {s t : ℕ} → Here s → There t → (w : Walk 𝓝 s t) → Change w
  unfolding junctions
  change side clash {s} h k stay = absurd (clash s h k)
  change side clash h k (go {s = s} {v = v} {r = r} {w = p} a w) =
      ⊎_elim (λ h'. later (change side clash h' k w)) (λ k'. now k') (side v)
    where
      now : There v → Change (go a w)
      now k' =
          record {
            from = s;
            to = v;
            number = r;
            weighs = p;
            arc = a;
            here = h;
            there = k';
            from_met = Memᴰ.head refl;
            to_met = Memᴰ.tail (start_met w);
          }

      later : Change w → Change (go a w)
      later z =
          record {
            from = z.from;
            to = z.to;
            number = z.number;
            weighs = z.weighs;
            arc = z.arc;
            here = z.here;
            there = z.there;
            from_met = Memᴰ.tail z.from_met;
            to_met = Memᴰ.tail z.to_met;
          }

-- the same junction of a larger set
meets-more : {𝓛 : Figures} {𝓝 : Network 𝓛} {H K : ℕ → Type 0} {s t : ℕ} {w : Walk 𝓝 s t} → ((h : ℕ) → H h → K h) → Meets 𝓝 H w → Meets 𝓝 K w
meets-more f m = record { at = m.at; inside = f m.at m.inside; met = m.met }

module _ {𝓛 : Figures} (𝓝 : Network 𝓛) (parent : Parents) where
  -- The working set of c without c itself: the proper ancestors of c that have a road to c or below it
  pub record Crosses (c h : ℕ) : Type 0 where
    pub above : Above parent h c
    pub road : RoadInto 𝓝 parent h c

module _ {𝓛 : Figures} {𝓝 : Network 𝓛} (parent : Parents) (joined : RoadsJoinRelated 𝓝 parent) (forest : IsForest parent) where
  -- ---- Leaving and entering a subtree

  -- of a road between a junction below c and one that is not below c, the second crosses
  road-crosses :
      {c x y r : ℕ} {p : (weights 𝓛).Figure} →
      Ancestor parent c x → (Ancestor parent c y → ⊥) → 𝓝.Arc y x r p ⊎ 𝓝.Arc x y r p → Crosses 𝓝 parent c y
  road-crosses {c} {x} {y} {r} {p} h n a =
      record { above = outside_above h n (related a); road = record { end = x; below = h; number = r; weighs = p; arc = a } }
    where
      related : 𝓝.Arc y x r p ⊎ 𝓝.Arc x y r p → Related parent x y
      related (inl b) = ⊎_elim inr inl (joined.joined b)
      related (inr b) = joined.joined b

  -- every junction stands on one side
  below_or_not : (c x : ℕ) → Ancestor parent c x ⊎ (Ancestor parent c x → ⊥)
  below_or_not c x = by_cases (ancestor? forest c x) inl inr

  -- a walk out of the subtree of c meets a proper ancestor of c that has a road to c or below it
  pub leaves_subtree : {c s t : ℕ} → Ancestor parent c s → (Ancestor parent c t → ⊥) → (w : Walk 𝓝 s t) → Meets 𝓝 (Crosses 𝓝 parent c) w
  leaves_subtree {c} h n w =
      let z = change (λ x. Ancestor parent c x) (λ x. Ancestor parent c x → ⊥) (below_or_not c) (λ x k m. m k) h n w in
      record { at = z.to; inside = road-crosses z.here z.there (inr z.arc); met = z.to_met }

  -- and so does a walk into it
  pub enters_subtree : {c s t : ℕ} → (Ancestor parent c s → ⊥) → Ancestor parent c t → (w : Walk 𝓝 s t) → Meets 𝓝 (Crosses 𝓝 parent c) w
  enters_subtree {c} n h w =
      let swapped : (x : ℕ) → (Ancestor parent c x → ⊥) ⊎ Ancestor parent c x = λ x. ⊎_elim inr inl (below_or_not c x) in
      let z = change (λ x. Ancestor parent c x → ⊥) (λ x. Ancestor parent c x) swapped (λ x m k. m k) n h w in
      record { at = z.from; inside = road-crosses z.there z.here (inl z.arc); met = z.from_met }

  -- ---- Common ancestors

  -- of an arc's start and a common ancestor met after it, the higher one is a common ancestor from that start on
  meets-common : {s t : ℕ} (w : Walk 𝓝 s t) → Meets 𝓝 (Common parent s t) w
  unfolding junctions
  meets-common (stay {s = s}) =
      record { at = s; inside = record { of_start = inl refl; of_finish = inl refl }; met = Memᴰ.head refl }
  meets-common (go {s = s} {v = v} {t = t} a w) = earlier (meets-common w)
    where
      earlier : Meets 𝓝 (Common parent v t) w → Meets 𝓝 (Common parent s t) (go a w)
      earlier m =
          ⊎_elim start-higher met_higher (⊎_elim (λ h. ancestors_related h of_v) (λ h. inr (ancestor_trans of_v h)) (joined.joined a))
        where
          of_v : Ancestor parent m.at v
          of_v = m.inside.of_start

          of_t : Ancestor parent m.at t
          of_t = m.inside.of_finish

          start-higher : Ancestor parent s m.at → Meets 𝓝 (Common parent s t) (go a w)
          start-higher h =
              record { at = s; inside = record { of_start = inl refl; of_finish = ancestor_trans h of_t }; met = Memᴰ.head refl }

          met_higher : Ancestor parent m.at s → Meets 𝓝 (Common parent s t) (go a w)
          met_higher h = record { at = m.at; inside = record { of_start = h; of_finish = of_t }; met = Memᴰ.tail m.met }

  -- every walk meets a common ancestor of its ends
  pub common_ancestors_cut : (s t : ℕ) → IsCut 𝓝 (Common parent s t) s t
  common_ancestors_cut s t = meets-common

  -- junctions of different trees have no path
  pub apart-without-common : {s t : ℕ} → ((u : ℕ) → Common parent s t u → ⊥) → Apart 𝓝 s t
  apart-without-common {s} {t} none w = let m = common_ancestors_cut s t w in none m.at m.inside

  -- ---- Branches and hoplinks

  -- Two smaller sets: the working set of the child of l on the side of s, without that child, and the same on the side of t
  pub start_branch_cut : {s t l c : ℕ} → Deepest parent s t l → parent c ≡ some l → Ancestor parent c s → IsCut 𝓝 (Crosses 𝓝 parent c) s t
  start_branch_cut d e h w = leaves_subtree h (λ k. child_not_common forest d e (record { of_start = h; of_finish = k })) w

  pub finish_branch_cut : {s t l c : ℕ} → Deepest parent s t l → parent c ≡ some l → Ancestor parent c t → IsCut 𝓝 (Crosses 𝓝 parent c) s t
  finish_branch_cut d e h w = enters_subtree (λ k. child_not_common forest d e (record { of_start = k; of_finish = h })) h w

  -- what crosses into a child's subtree is of the parent's working set
  pub child_working_set : {l c h : ℕ} → parent c ≡ some l → Crosses 𝓝 parent c h → WorkingSet 𝓝 parent l h
  child_working_set {l} {c} {h} e x = ⊎_elim (λ same. itself same) (λ k. crossing k into) (ancestor_of_parent e x.above)
    where
      into : RoadInto 𝓝 parent h l
      into =
          record {
            end = x.road.end;
            below = inr (above_then_ancestor (above-child e (inl refl)) x.road.below);
            number = x.road.number;
            weighs = x.road.weighs;
            arc = x.road.arc;
          }

  -- the hoplinks meet every path: what is met on the way out of s's branch is of the working set of l
  pub hoplinks_cut :
      {s t l : ℕ} → Deepest parent s t l → (Ancestor parent s t → ⊥) → (Ancestor parent t s → ⊥) → IsCut 𝓝 (Hoplink 𝓝 parent s t) s t
  hoplinks_cut {s} {t} {l} d no_start no_finish w =
      let z = child-towards proper in
      meets-more (λ h x. hoplink h (child_working_set z.hangs x)) (start_branch_cut d z.hangs z.towards w)
    where
      proper : Above parent l s
      proper = ⊎_elim (λ e. absurd (no_start (rw e at d.common.of_finish))) (λ h. h) d.common.of_start

      hoplink : (h : ℕ) → WorkingSet 𝓝 parent l h → Hoplink 𝓝 parent s t h
      hoplink h m =
          record { deepest = l; is_deepest = d; start_no_ancestor = no_start; finish_no_ancestor = no_finish; meeting = m }
