-- The join of two lists is the list of their sums. In this order: the join and its entries; counted and filled.
use mathlib.Core.Path.{◌≡◌, sym, ap, ◌∙◌, subst}
use mathlib.Core.List.{List}
use Prim.Native.Nat.{ℕ}
use lib.ListN.{length}
use Rattle.paths.specs.Weights.{energy}
use Rattle.paths.specs.TradeOff.{IsSum, UnbeatenSum, IsJoin}
use Rattle.paths.proofs.Figures.{number_lawful}
use Rattle.paths.proofs.Skyline.{join_exists}
use Rattle.paths.proofs.Unique.{join_unique}
use Rattle.refusals.specs.Lent.{filled}
use Rattle.lists.specs.Entries.{Weight, entries, times as times_of, energies as energies_of}
use Rattle.lists.proofs.Entries.{places_sum, sum_places}
use Rattle.spans.specs.working.Below.{UnbeatenOf, ListOf}
use Rattle.spans.specs.working.Written.{Counted, ListWritten}
use Rattle.unbeaten.specs.working.Noting.{ListsSum, TwoLists}

-- ---- The join and its entries

module _ (times energies more_times more_energies : List ℕ) where
  -- the join of two lists in slices
  pub join_of : List Weight
  join_of = (join_exists number_lawful (entries times energies) (entries more_times more_energies)).list

  -- it is their join
  pub join_of_is : IsJoin energy (entries times energies) (entries more_times more_energies) join_of
  unfolding join_of
  join_of_is = (join_exists number_lawful (entries times energies) (entries more_times more_energies)).is_join

module _ {times energies more_times more_energies : List ℕ} (both : TwoLists times energies more_times more_energies) where
  -- a sum of entries at two places is a sum of the two lists, and back
  lists_sum : {p : Weight} → ListsSum times energies more_times more_energies p → IsSum energy (entries times energies) (entries more_times more_energies) p
  lists_sum h =
      subst (IsSum energy (entries times energies) (entries more_times more_energies)) (sym h.adds)
      (places_sum times energies more_times more_energies both.first.one_length both.second.one_length h.i h.j h.in_near h.in_far)

  sum_lists : {p : Weight} → IsSum energy (entries times energies) (entries more_times more_energies) p → ListsSum times energies more_times more_energies p
  sum_lists s =
      let z = sum_places times energies more_times more_energies s in
      record { i = z.first_index; j = z.second_index; in_near = z.in_first; in_far = z.in_second; adds = sym z.is }

  -- and so is one that none of them beats
  lists_unbeaten : {p : Weight} → UnbeatenOf (ListsSum times energies more_times more_energies) p → UnbeatenSum energy (entries times energies) (entries more_times more_energies) p
  lists_unbeaten u = record { sum = lists_sum u.among; unbeaten = λ q s b. u.unbeaten q (sum_lists s) b }

  unbeaten_lists : {p : Weight} → UnbeatenSum energy (entries times energies) (entries more_times more_energies) p → UnbeatenOf (ListsSum times energies more_times more_energies) p
  unbeaten_lists u = record { among = sum_lists u.sum; unbeaten = λ q h b. u.unbeaten q (lists_sum h) b }

  -- the join is the list of the sums, and it is the only one
  pub join-listed : ListOf (ListsSum times energies more_times more_energies) (join_of times energies more_times more_energies)
  join-listed =
      let is = join_of_is times energies more_times more_energies in
      record { rising = is.rising; real = λ m. unbeaten_lists (is.real m); complete = λ u. is.complete (lists_unbeaten u) }

  listed-join :
      {l joined : List Weight} → ListOf (ListsSum times energies more_times more_energies) l →
      IsJoin energy (entries times energies) (entries more_times more_energies) joined → l ≡ joined
  listed-join right j =
      join_unique number_lawful
      (record { rising = right.rising; real = λ m. lists_unbeaten (right.real m); complete = λ u. right.complete (unbeaten_lists u) })
      j

  -- ---- Counted and filled

  pub join-counted :
      {count : ℕ} → Counted (ListOf (ListsSum times energies more_times more_energies)) count → (joined : List Weight) →
      IsJoin energy (entries times energies) (entries more_times more_energies) joined → count ≡ length joined
  join-counted z joined j = z.counted ∙ ap length (listed-join z.right j)

  module _ {out_times out_energies new_times new_energies : List ℕ} {count : ℕ}
      (written : ListWritten (ListOf (ListsSum times energies more_times more_energies)) out_times out_energies count new_times new_energies) where
    pub join-times : (joined : List Weight) → IsJoin energy (entries times energies) (entries more_times more_energies) joined → new_times ≡ filled out_times (times_of joined)
    join-times joined j = written.times_filled ∙ ap (λ l. filled out_times (times_of l)) (listed-join written.right j)

    pub join-energies : (joined : List Weight) → IsJoin energy (entries times energies) (entries more_times more_energies) joined → new_energies ≡ filled out_energies (energies_of joined)
    join-energies joined j = written.energies_filled ∙ ap (λ l. filled out_energies (energies_of l)) (listed-join written.right j)
