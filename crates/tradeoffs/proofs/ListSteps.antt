-- The list that is told, counted and filled. In this order: what is told; one stored list; the sums where two branches meet.
use mathlib.Core.Path.{◌≡◌, refl, sym, ap, ◌∙◌, subst}
use mathlib.Core.List.{List, [], ◌∷◌, map}
use Prim.Native.Nat.{ℕ, zero, suc}
use lib.ListN.{length}
use Rattle.paths.specs.Weights.{energy, pair, time, spent}
use Rattle.refusals.specs.Lent.{filled}
use Rattle.refusals.proofs.Lent.{filled_none}
use Rattle.lists.specs.Entries.{Weight}
use Rattle.spans.specs.working.Below.{ListOf}
use Rattle.forest.specs.LabelFile.{count_at, time_at, energy_at}
use Rattle.stored.specs.Stored.{tabulate, list_at}
use Rattle.stored.specs.working.Scanned.{Loaded}
use Rattle.stored.proofs.Tabulate.{length-tabulate}
use Rattle.query.specs.declared.Between.{Between}
use Rattle.query.specs.declared.Between.TheVariants.{Nothing, List as OneList, Lists as TwoLists}
use Rattle.query.specs.working.Sums.{SumIn, Row, RowFits}
use Rattle.tradeoffs.specs.working.Tells.{StoredList, JoinedList, Tells}
use Rattle.spans.specs.working.Written.{SomeList, Counted, ListWritten}

-- ---- What is told

-- the same list under a wider name
pub some_more : {P Q : List Weight → Type 0} → ((l : List Weight) → P l → Q l) → SomeList P → SomeList Q
some_more more z = record { list = z.list; right = more z.list z.right }

pub counted-more : {P Q : List Weight → Type 0} {count : ℕ} → ((l : List Weight) → P l → Q l) → Counted P count → Counted Q count
counted-more more z = record { list = z.list; right = more z.list z.right; counted = z.counted }

pub written-more :
    {P Q : List Weight → Type 0} {times_before energies_before times_after energies_after : List ℕ} {count : ℕ} → ((l : List Weight) → P l → Q l) →
    ListWritten P times_before energies_before count times_after energies_after → ListWritten Q times_before energies_before count times_after energies_after
written-more more z =
    record { list = z.list; right = more z.list z.right; counted = z.counted; times_filled = z.times_filled; energies_filled = z.energies_filled }

-- which case it is
module _ (labels : List ℕ) {lists : Between} where
  pub told_none : lists ≡ Nothing → (l : List Weight) → Tells labels lists l → l ≡ []
  told_none e l told = subst (λ b. Tells labels b l) e told

  pub none_told : lists ≡ Nothing → (l : List Weight) → l ≡ [] → Tells labels lists l
  none_told e l is = subst (λ b. Tells labels b l) (sym e) is

  pub told_one : {at : ℕ} → lists ≡ OneList at → (l : List Weight) → Tells labels lists l → StoredList labels at l
  told_one e l told = subst (λ b. Tells labels b l) e told

  pub one_told : {at : ℕ} → lists ≡ OneList at → (l : List Weight) → StoredList labels at l → Tells labels lists l
  one_told e l is = subst (λ b. Tells labels b l) (sym e) is

  pub told_two : {near far levels meeting : ℕ} → lists ≡ TwoLists near far levels meeting → (l : List Weight) → Tells labels lists l → JoinedList labels near far levels l
  told_two e l told = subst (λ b. Tells labels b l) e told

  pub two_told : {near far levels meeting : ℕ} → lists ≡ TwoLists near far levels meeting → (l : List Weight) → JoinedList labels near far levels l → Tells labels lists l
  two_told e l is = subst (λ b. Tells labels b l) (sym e) is

-- no list has no entry, and fills no place
pub none-counted : Counted (λ l. l ≡ []) 0
none-counted = record { list = []; right = refl; counted = refl }

pub none_written : {count : ℕ} {out_times out_energies : List ℕ} → Counted (λ l. l ≡ []) count → ListWritten (λ l. l ≡ []) out_times out_energies count out_times out_energies
none_written {out_times = out_times} {out_energies} counted =
    record {
      list = [];
      right = refl;
      counted = counted.counted ∙ ap length counted.right;
      times_filled = sym (filled_none out_times);
      energies_filled = sym (filled_none out_energies);
    }

-- ---- One stored list

map_tabulate : {A B : Type 0} (g : A → B) (f : ℕ → A) (n : ℕ) → map g (tabulate f n) ≡ tabulate (λ j. g (f j)) n
unfolding tabulate
map_tabulate g f zero = refl
map_tabulate g f (suc n) = ap (λ l. g (f 0) ∷ l) (map_tabulate g (λ j. f (suc j)) n)

-- its length is the count stored with it
stored-length : (labels : List ℕ) (at : ℕ) → length (list_at labels at) ≡ count_at labels at
stored-length labels at = length-tabulate (λ j. pair (time_at labels at j) (energy_at labels at j)) (count_at labels at)

module _ {labels : List ℕ} {at : ℕ} where
  pub stored-counted : {count : ℕ} → SomeList (StoredList labels at) → count ≡ count_at labels at → Counted (StoredList labels at) count
  stored-counted z e = record { list = z.list; right = z.right; counted = e ∙ sym (ap length z.right.is ∙ stored-length labels at) }

  module _ {count : ℕ} (counted : Counted (StoredList labels at) count) where
    -- so it has room
    pub stored-room : count_at labels at ≡ count
    stored-room = sym (counted.counted ∙ ap length counted.right.is ∙ stored-length labels at)

    -- and what is loaded is written
    pub stored-written :
        {loaded : ℕ} {out_times out_energies new_times new_energies : List ℕ} → Loaded labels at out_times out_energies new_times new_energies loaded →
        ListWritten (StoredList labels at) out_times out_energies count new_times new_energies
    stored-written {out_times = out_times} {out_energies} loaded =
        record {
          list = list_at labels at;
          right = record { fits = counted.right.fits; is = refl };
          counted = counted.counted ∙ ap length counted.right.is;
          times_filled =
              loaded.times_filled ∙
              ap (filled out_times) (sym (map_tabulate (time energy) (λ j. pair (time_at labels at j) (energy_at labels at j)) (count_at labels at)));
          energies_filled =
              loaded.energies_filled ∙
              ap (filled out_energies) (sym (map_tabulate (spent energy) (λ j. pair (time_at labels at j) (energy_at labels at j)) (count_at labels at)));
        }

-- ---- The sums where two branches meet

-- their list is the one that is told
pub joined_list : {labels : List ℕ} {near far levels : ℕ} → RowFits labels near far levels → (l : List Weight) → ListOf (SumIn labels (Row labels near far levels)) l → JoinedList labels near far levels l
joined_list fits l is = record { fits = fits; is = is }
