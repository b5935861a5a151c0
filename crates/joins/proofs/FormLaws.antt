-- Slices that pass 41 and 42 are lists: what each test of the form gives when it holds.
-- In this order: an entry; a list; two lists.
use mathlib.Core.Path.{◌≡◌}
use mathlib.Core.Bool.{true, ◌&&◌}
use mathlib.Core.List.{List}
use Prim.Native.Nat.{ℕ, suc, ◌≤◌, ◌<◌}
use native.Mathlib.Omega.{arith}
use borrow.Author.Tests.{leb-true, ltb-true, eqb-true}
use lib.Dec.{leb, ltb, eqb}
use lib.ListN.{length, get_or}
use Rattle.refusals.specs.Order.{every}
use Rattle.refusals.proofs.Order.{unless-passed, and_both, every_holds}
use Rattle.lists.specs.working.Lists.{IsList}
use Rattle.joins.specs.Form.{most_entries, most_number, follows, entry_fits, well_formed, join_number}

-- What an entry that fits keeps to
pub record Fits (times energies : List ℕ) (i : ℕ) : Type 0 where
  pub small_time : get_or times i 0 ≤ most_number
  pub small_energy : get_or energies i 0 ≤ most_number
  pub in_order : follows times energies i ≡ true

-- the test of an entry tells what it keeps to
pub entry_fits_keeps : (times energies : List ℕ) (i : ℕ) → entry_fits times energies i ≡ true → Fits times energies i
unfolding entry_fits
entry_fits_keeps times energies i h =
    let a = and_both (leb (get_or times i 0) most_number && leb (get_or energies i 0) most_number) (follows times energies i) h in
    let b = and_both (leb (get_or times i 0) most_number) (leb (get_or energies i 0) most_number) a.0 in
    record { small_time = leb-true _ _ b.0; small_energy = leb-true _ _ b.1; in_order = a.1 }

-- a list that passes 42 is a list
pub well_formed_is_list : (times energies : List ℕ) → length times ≡ length energies → well_formed times energies ≡ true → IsList most_number times energies
unfolding well_formed
well_formed_is_list times energies h w =
    record {
      one_length = h;
      small_time = λ i k. (fits i k).small_time;
      small_energy = λ i k. (fits i (omega arith)).small_energy;
      energy_rises = λ i k. ltb-true _ _ (order i (omega arith)).0;
      time_falls = λ i k. ltb-true _ _ (order i k).1;
    }
  where
    fits : (i : ℕ) → i < length times → Fits times energies i
    fits i k =
        entry_fits_keeps times energies i
        (every_holds (entry_fits times energies) (length times) (and_both (leb (length times) most_entries) (every (entry_fits times energies) (length times)) w).1 k)

    order : (i : ℕ) → suc i < length times → (ltb (get_or energies i 0) (get_or energies (suc i) 0) ≡ true) × (ltb (get_or times (suc i) 0) (get_or times i 0) ≡ true)
    order i k = and_both (ltb (get_or energies i 0) (get_or energies (suc i) 0)) (ltb (get_or times (suc i) 0) (get_or times i 0)) (fits (suc i) k).in_order

-- at most 4,095 entries
pub well_formed-short : (times energies : List ℕ) → well_formed times energies ≡ true → length times ≤ most_entries
unfolding well_formed
well_formed-short times energies w = leb-true _ _ (and_both (leb (length times) most_entries) (every (entry_fits times energies) (length times)) w).0

-- Both pairs of slices are lists, and short
pub record BothLists (most : ℕ) (times energies more_times more_energies : List ℕ) : Type 0 where
  pub first : IsList most times energies
  pub second : IsList most more_times more_energies
  pub first_short : length times ≤ most_entries
  pub second_short : length more_times ≤ most_entries

-- a join's 0 tells that both are lists
pub join_number-passed : (times energies more_times more_energies : List ℕ) → join_number times energies more_times more_energies ≡ 0 → BothLists most_number times energies more_times more_energies
unfolding join_number
join_number-passed times energies more_times more_energies h =
    let a = unless-passed {test = eqb (length times) (length energies)} {number = 41} (λ z. omega arith) h in
    let b = unless-passed {test = eqb (length more_times) (length more_energies)} {number = 41} (λ z. omega arith) a.1 in
    let c = unless-passed {test = well_formed times energies} {number = 42} (λ z. omega arith) b.1 in
    let d = unless-passed {test = well_formed more_times more_energies} {number = 42} {next = 0} (λ z. omega arith) c.1 in
    record {
      first = well_formed_is_list times energies (eqb-true _ _ a.0) c.0;
      second = well_formed_is_list more_times more_energies (eqb-true _ _ b.0) d.0;
      first_short = well_formed-short times energies c.0;
      second_short = well_formed-short more_times more_energies d.0;
    }
