-- What the reading places stand for before and after a junction is swept.
-- In this order: the block of a junction; before its turn; after its turn; the first turn.
use mathlib.Core.Path.{◌≡◌, refl, sym, ap, ◌∙◌}
use mathlib.Core.Logic.{inl, inr, ⊎_elim}
use mathlib.Core.List.{List}
use Prim.Native.Nat.{ℕ, suc, ◌+◌, ◌-◌, ◌≤◌, ◌<◌}
use native.Mathlib.Decide.{ℕ_discrete}
use native.Mathlib.Omega.{arith}
use Rattle.std.specs.List.{slice_range}
use Rattle.std.proofs.Common.{drop, length-drop}
use Rattle.std.proofs.lemmas.List.{get_or-take, get_or-drop, length-take-le}
use lib.ListN.{length, get_or, set, length-set}
use lib.Seq.{get_or-set_same, get_or-set_other}
use Rattle.paths.specs.Forest.{Above, Ancestor}
use Rattle.paths.proofs.Forest.{ancestor-refl, ancestors_related, ancestor_of_parent, child-towards}
use Rattle.tables.specs.working.Layout.{starts_from, order_from}
use Rattle.network.specs.NetworkFile.{junctions_of}
use Rattle.forest.specs.LabelFile.{parents_of, list_end}
use Rattle.forest.specs.Forest.{depth_of}
use Rattle.forest.proofs.Chains.{depth-parent}
use Rattle.forest.proofs.Forest.{above_at, above_shallower, parents-some}
use Rattle.stored.specs.Stored.{lists_before, place_of, list_place}
use Rattle.stored.specs.working.Formed.{Formed, StartsFilled}
use Rattle.stored.proofs.Places.{place-next}
use Rattle.stored.proofs.Passed.{below_on_map}
use Rattle.preorder.specs.working.Numbered.{Numbered, junction_at, spot_of, size_of}
use Rattle.agree.specs.working.Agreeing.{PlacesFor}
use Rattle.exact.specs.working.Sweep.{Swept, Noted, MovedOn, BlockOf}

module _ {labels : List ℕ} (formed : Formed labels) {tables : List ℕ} (numbered : Numbered labels tables) where
  -- ---- The block of a junction

  -- a junction's ancestors stand before it
  spots_rise : {p c : ℕ} → Above (parents_of labels) p c → spot_of tables p < spot_of tables c
  spots_rise {p} {c} above = pick (ℕ_discrete (spot_of tables p) (spot_of tables c))
    where
      p_on_map : p < junctions_of labels
      p_on_map = (above_at formed.parents above).on_map

      c_on_map : c < junctions_of labels
      c_on_map = below_on_map labels above

      -- two junctions at one spot would be one
      same : spot_of tables p ≡ spot_of tables c → p ≡ c
      same e = sym (numbered.at_spot p p_on_map) ∙ ap (λ i. junction_at tables i) e ∙ numbered.at_spot c c_on_map

      pick : Dec (spot_of tables p ≡ spot_of tables c) → spot_of tables p < spot_of tables c
      pick (yes e) = absurd (omega (arith, above_shallower labels formed.parents.ends above, ap (depth_of labels) (same e)))
      pick (no apart) = omega (arith, (numbered.in_block p c p_on_map c_on_map (inr above)).0)

  -- and before itself a junction does not stand
  ancestor-spot : {p c : ℕ} → Ancestor (parents_of labels) p c → spot_of tables p ≤ spot_of tables c
  ancestor-spot a = ⊎_elim (λ e. omega (arith, ap (λ x. spot_of tables x) e)) (λ above. omega (arith, spots_rise above)) a

  module _ {i u size : ℕ} (inside : i < junctions_of labels) (u-is : u ≡ junction_at tables i) (size_is : size ≡ size_of tables u) where
    pub swept_on_map : u < junctions_of labels
    swept_on_map = omega (arith, u-is, numbered.on_map i inside)

    spot_is : spot_of tables u ≡ i
    spot_is = ap (λ x. spot_of tables x) u-is ∙ numbered.spot_of_junction i inside

    pub block_end : i + size ≤ junctions_of labels
    block_end = omega (arith, numbered.block_inside u swept_on_map, spot_is)

    -- u itself stands first in its block
    pub some : 0 < size
    some = omega (arith, (numbered.in_block u u swept_on_map swept_on_map (inl refl)).1, size_is)

    -- the junctions right behind u are those below it
    pub block_of : BlockOf labels u (slice_range tables (order_from + i + 1) (order_from + i + size))
    block_of =
        record {
          below = λ k inside. rw (at k inside) (below (i + 1 + k) (omega arith) (omega (arith, long)));
          all =
              λ v above.
              let after : i < spot_of tables v = omega (arith, spots_rise above, spot_is) in
              let before : spot_of tables v < i + size
              = omega (arith, (numbered.in_block u v swept_on_map (below_on_map labels above) (inr above)).1, spot_is, size_is) in
              let back : i + 1 + (spot_of tables v - (i + 1)) ≡ spot_of tables v = omega arith in
              let inside : spot_of tables v - (i + 1) < length block = omega (arith, long) in (
                spot_of tables v - (i + 1),
                inside,
                at (spot_of tables v - (i + 1)) inside ∙ ap (λ j. junction_at tables j) back ∙ numbered.at_spot v (below_on_map labels above),
              );
          once =
              λ j k j_inside k_inside e.
              omega (
                arith,
                long,
                block_end,
                ap (λ x. spot_of tables x) (sym (at j j_inside) ∙ e ∙ at k k_inside),
                numbered.spot_of_junction (i + 1 + j) (omega (arith, long, block_end)),
                numbered.spot_of_junction (i + 1 + k) (omega (arith, long, block_end)),
              );
        }
      where
        block : List ℕ
        block = slice_range tables (order_from + i + 1) (order_from + i + size)

        long : length block + 1 ≡ size
        long = omega (
          arith,
          some,
          block_end,
          formed.parents.few_junctions,
          numbered.places,
          length-take-le (order_from + i + size - (order_from + i + 1)) (drop (order_from + i + 1) tables) (
              omega (arith, some, block_end, formed.parents.few_junctions, numbered.places, length-drop (order_from + i + 1) tables)
              ),
        )

        at : (k : ℕ) → k < length block → get_or block k 0 ≡ junction_at tables (i + 1 + k)
        at k inside =
            get_or-take (order_from + i + size - (order_from + i + 1)) (drop (order_from + i + 1) tables) k 0 (omega (arith, long)) ∙
            get_or-drop (order_from + i + 1) tables k 0 ∙ ap (λ j. get_or tables j 0) (omega arith)

        below : (j : ℕ) → i + 1 ≤ j → j < i + size → Above (parents_of labels) u (junction_at tables j)
        below j from to =
            ⊎_elim
            (λ e. absurd (omega (arith, ap (λ x. spot_of tables x) e, spot_is, spot)))
            (λ above. above)
            (numbered.block_below u (junction_at tables j) swept_on_map (numbered.on_map j on_map) (omega (arith, spot, spot_is)) (omega (arith, spot, spot_is, size_is)))
          where
            on_map : j < junctions_of labels
            on_map = omega (arith, block_end)

            spot : spot_of tables (junction_at tables j) ≡ j
            spot = numbered.spot_of_junction j on_map

    -- ---- Before its turn

    module _ {places : List ℕ} (swept : Swept labels tables (i + 1) places) where
      -- the junctions below u stand at their lists for u
      waits_for : {v : ℕ} → Above (parents_of labels) u v → get_or places v 0 ≡ list_place labels v u
      unfolding list_place
      waits_for {v} above =
          swept.stands v child.branch (below_on_map labels above) child.towards (omega (arith, spots_rise up, spot_is)) earlier ∙
          ap (λ k. place_of labels (lists_before labels v + k)) (omega (arith, deeper))
        where
          child : Rattle.paths.proofs.Forest.ChildTowards (parents_of labels) u v
          child = child-towards above

          up : Above (parents_of labels) u child.branch
          up = Above.parent_is child.hangs

          deeper : depth_of labels child.branch ≡ suc (depth_of labels u)
          deeper =
              let has = parents-some labels child.hangs in
              depth-parent labels child.branch has.no_root (formed.parents.ends child.branch has.on_map) ∙ ap (λ x. suc (depth_of labels x)) has.parent

          earlier : (p : ℕ) → Above (parents_of labels) p child.branch → spot_of tables p < i + 1
          earlier p above-child = omega (arith, ancestor-spot (ancestor_of_parent child.hangs above-child), spot_is)

      -- with u's own lists noted, the places are those of the lists for u
      pub noted_places : (start : ℕ) {after : List ℕ} → Noted labels u (set places u start) after → PlacesFor labels u after
      noted_places start noted =
          record {
            places_length = noted.one_length;
            below =
                λ w on_map above.
                noted.others w (λ up. omega (arith, spots_rise above, spots_rise up)) ∙
                get_or-set_other places u w start 0 (λ e. omega (arith, spots_rise above, ap (λ x. spot_of tables x) e)) ∙ waits_for above;
            above = λ w on_map up. noted.above w up;
          }

      -- ---- After its turn

      -- u is at its first list, the junctions below it are one list further, and the others that were swept are where they were
      module _ {after : List ℕ} (own : get_or after u 0 ≡ place_of labels (lists_before labels u))
          (moved : (v : ℕ) → Above (parents_of labels) u v → get_or after v 0 ≡ list_end labels (get_or places v 0))
          (others : (v : ℕ) → v < junctions_of labels → (Ancestor (parents_of labels) u v → ⊥) → (Above (parents_of labels) v u → ⊥) → get_or after v 0 ≡ get_or places v 0)
          (after-length : length after ≡ 1024) where
        pub swept_more : Swept labels tables i after
        unfolding list_place
        swept_more = record { places_length = after-length; stands = λ v c on_map a from topmost. pick v c on_map a from topmost (ℕ_discrete (spot_of tables c) i) }
          where
            -- the topmost swept ancestor is u
            at_top : (v : ℕ) → Ancestor (parents_of labels) u v → get_or after v 0 ≡ place_of labels (lists_before labels v + (depth_of labels v - depth_of labels u))
            at_top v a =
                ⊎_elim
                (λ e. ap (λ x. get_or after x 0) (sym e) ∙ own ∙ ap (λ x. place_of labels (lists_before labels x)) e ∙ ap (place_of labels) (omega (arith, ap (depth_of labels) e)))
                (λ above.
                moved v above ∙ ap (list_end labels) (waits_for above) ∙ sym (place-next labels (lists_before labels v + (depth_of labels v - depth_of labels u - 1))) ∙
                ap (place_of labels) (omega (arith, above_shallower labels formed.parents.ends above)))
                a

            pick :
                (v c : ℕ) → v < junctions_of labels → Ancestor (parents_of labels) c v → i ≤ spot_of tables c →
                ((p : ℕ) → Above (parents_of labels) p c → spot_of tables p < i) → Dec (spot_of tables c ≡ i) →
                get_or after v 0 ≡ place_of labels (lists_before labels v + (depth_of labels v - depth_of labels c))
            pick v c on_map a from topmost (yes e) =
                at_top v (rw c_is at a) ∙ ap (λ x. place_of labels (lists_before labels v + (depth_of labels v - depth_of labels x))) (sym c_is)
              where
                c_on_map : c < junctions_of labels
                c_on_map = ⊎_elim (λ same. rw same on_map) (λ above. (above_at formed.parents above).on_map) a

                c_is : c ≡ u
                c_is = sym (numbered.at_spot c c_on_map) ∙ ap (λ j. junction_at tables j) e ∙ sym u-is
            pick v c on_map a from topmost (no apart) =
                others v on_map no_ancestor no_descendant ∙
                swept.stands v c on_map a (omega arith) (λ p above. omega (arith, topmost p above))
              where
                -- c would be related to u, and stands behind it
                no_ancestor : Ancestor (parents_of labels) u v → ⊥
                no_ancestor b =
                    ⊎_elim
                    (λ u-above. ⊎_elim (λ same. apart (ap (λ x. spot_of tables x) (sym same) ∙ spot_is)) (λ above. omega (arith, topmost u above, spot_is)) u-above)
                    (λ c-above. omega (arith, ancestor-spot c-above, spot_is))
                    (ancestors_related b a)

                no_descendant : Above (parents_of labels) v u → ⊥
                no_descendant up = omega (arith, spots_rise up, ancestor-spot a, spot_is)

      -- where no junction is below u, nothing but u's own place changes
      pub swept_alone :
          {block : List ℕ} → StartsFilled labels tables → BlockOf labels u block → length block ≡ 0 →
          Swept labels tables i (set places u (get_or tables (starts_from + u) 0))
      swept_alone starts_filled block none =
          swept_more
          (get_or-set_same places u (get_or tables (starts_from + u) 0) 0 (omega (arith, swept_on_map, formed.parents.few_junctions, swept.places_length)) ∙ starts_filled.start u swept_on_map)
          (λ v above. let (k, inside, is) = block.all v above in absurd (omega arith))
          (λ v on_map apart up. get_or-set_other places u v (get_or tables (starts_from + u) 0) 0 (λ e. apart (inl (sym e))))
          (length-set places u (get_or tables (starts_from + u) 0) ∙ swept.places_length)

      pub swept_moved :
          {noted after : List ℕ} → StartsFilled labels tables → Noted labels u (set places u (get_or tables (starts_from + u) 0)) noted →
          MovedOn labels u noted after → Swept labels tables i after
      swept_moved {noted} {after} starts_filled noting moving =
          swept_more
          (moving.unmoved u (λ above. omega (arith, spots_rise above)) ∙
          noting.others u (λ up. omega (arith, spots_rise up)) ∙
          get_or-set_same places u (get_or tables (starts_from + u) 0) 0 (omega (arith, swept_on_map, formed.parents.few_junctions, swept.places_length)) ∙
          starts_filled.start u swept_on_map)
          (λ v above.
          moving.moved v above ∙
          ap (list_end labels) ((noted_places (get_or tables (starts_from + u) 0) noting).below v (below_on_map labels above) above ∙ sym (waits_for above)))
          (λ v on_map apart up.
          moving.unmoved v (λ above. apart (inr above)) ∙
          noting.others v up ∙
          get_or-set_other places u v (get_or tables (starts_from + u) 0) 0 (λ e. apart (inl (sym e))))
          moving.one_length

  -- ---- The first turn

  -- no junction is swept
  pub swept_none : {places : List ℕ} {n : ℕ} → n ≡ junctions_of labels → length places ≡ 1024 → Swept labels tables n places
  swept_none n-is places_length =
      record {
        places_length = places_length;
        stands = λ v c on_map a from topmost. absurd (omega (arith, numbered.spot_below c (⊎_elim (λ same. rw same on_map) (λ above. (above_at formed.parents above).on_map) a)));
      }
