-- Passing over the entries of one list: the laws of the loop that reads each number once, carrying the time and the energy before.
-- In this order: an entry by what stands before it; the entries that stand whole; the one that is cut off; the list.
use mathlib.Core.Path.{◌≡◌, refl, sym, ap, ◌∙◌}
use mathlib.Core.Bool.{Bool, true, false, not, ◌&&◌}
use mathlib.Core.List.{List}
use Prim.Native.Nat.{ℕ, zero, suc, ◌+◌, ◌-◌, ◌*◌, ◌^◌, ◌≤◌, ◌<◌}
use native.Mathlib.Omega.{arith}
use native.Mathlib.Numerals.{add-one}
use lib.Dec.{leb, ltb}
use lib.ListN.{length}
use borrow.Author.Tests.{leb-true, ltb-true, le-leb, lt-leb, lt-ltb, not-true, not-false}
use Rattle.refusals.specs.Order.{first_fault}
use Rattle.refusals.proofs.Order.{and_both, faults_from, fault-next, fault-here, fault_end}
use Rattle.forest.specs.LabelVersions.{least_entry_energy}
use Rattle.network.specs.NetworkFile.{version_of}
use Rattle.forest.specs.LabelFile.{count_at, time_at, energy_at}
use Rattle.stored.specs.ListForm.{most_count, most_figure, time_fits, energy_fits, entry_number, list_number}
use Rattle.stored.specs.working.Scanned.{time_ceiling, energy_floor, time_below, energy_from, Inside}
use Rattle.stored.proofs.Faults.{fault-among, fault-behind}
use Rattle.stored.proofs.Lists.{EntryFits, entry-fits, fits-entry}

-- ---- An entry by what stands before it

-- from the second entry on the ceiling is the time before
pub ceiling_later : (labels : List ℕ) (at j : ℕ) {t : ℕ} → (j ≡ 0 → ⊥) → t ≡ time_at labels at (j - 1) → t ≡ time_ceiling labels at j
ceiling_later labels at zero h e = absurd (h refl)
ceiling_later labels at (suc j) h e = e ∙ ap (time_at labels at) (omega arith)

-- a test that follows from the others adds nothing
absorbed : (p c : Bool) → (p ≡ true → c ≡ true) → (p && true) ≡ (p && c)
absorbed true c f = sym (f refl)
absorbed false c f = refl

-- the time's rule is a range below the ceiling
time_by_ceiling : (labels : List ℕ) (at j : ℕ) → time_fits labels at j ≡ time_below (time_ceiling labels at j) (time_at labels at j)
unfolding time_fits
time_by_ceiling labels at zero =
    absorbed (leb 1 (time_at labels at 0) && leb (time_at labels at 0) most_figure) (ltb (time_at labels at 0) (suc most_figure))
    (λ h. lt-ltb (time_at labels at 0) (suc most_figure)
    (omega (arith, leb-true (time_at labels at 0) most_figure (and_both (leb 1 (time_at labels at 0)) (leb (time_at labels at 0) most_figure) h).1)))
time_by_ceiling labels at (suc j) = refl

-- the order of two tests does not matter
turned : (a b : Bool) → (a && b && true) ≡ (b && a)
turned true true = refl
turned true false = refl
turned false true = refl
turned false false = refl

-- a test that the last implies adds nothing
implied : (a b c : Bool) → (c ≡ true → a ≡ true) → (a && b && c) ≡ (b && c)
implied true b c f = refl
implied false true true f = f refl
implied false true false f = refl
implied false false c f = refl

-- the energy's rule is a range from the floor on, which is no less than the least
energy_by_floor :
    (labels : List ℕ) (at j : ℕ) → least_entry_energy (version_of labels) ≤ energy_floor labels at j →
    energy_fits labels at j ≡ energy_from (energy_floor labels at j) (energy_at labels at j)
unfolding energy_fits
energy_by_floor labels at zero from = turned (leb (least_entry_energy (version_of labels)) (energy_at labels at 0)) (leb (energy_at labels at 0) most_figure)
energy_by_floor labels at (suc j) from =
    implied
    (leb (least_entry_energy (version_of labels)) (energy_at labels at (suc j)))
    (leb (energy_at labels at (suc j)) most_figure)
    (ltb (energy_at labels at j) (energy_at labels at (suc j)))
    (λ h. le-leb (least_entry_energy (version_of labels)) (energy_at labels at (suc j)) (omega (arith, from, ltb-true (energy_at labels at j) (energy_at labels at (suc j)) h)))

-- the test against the ceiling is the time's rule
pub time-tested :
    (labels : List ℕ) (at j : ℕ) {x : Bool} {t ceiling : ℕ} → ceiling ≡ time_ceiling labels at j → t ≡ time_at labels at j →
    x ≡ time_below ceiling t → x ≡ time_fits labels at j
time-tested labels at j is_ceiling is-time tested = tested ∙ rw (is-time, is_ceiling) (sym (time_by_ceiling labels at j))

-- the test against the floor is the energy's rule
pub energy-tested :
    (labels : List ℕ) (at j : ℕ) {x : Bool} {e floor : ℕ} → least_entry_energy (version_of labels) ≤ floor → floor ≡ energy_floor labels at j → e ≡ energy_at labels at j →
    x ≡ energy_from floor e → x ≡ energy_fits labels at j
energy-tested labels at j from is_floor is-energy tested =
    tested ∙ rw (is-energy, is_floor) (sym (energy_by_floor labels at j (omega (arith, from, is_floor))))

-- an energy that passed is no less than the floor
pub floor_below : (e floor : ℕ) → true ≡ energy_from floor e → floor ≤ e
floor_below e floor passed = leb-true floor e (and_both (leb e most_figure) (leb floor e) (sym passed)).1

-- an energy that passed leaves room for the next floor
pub floor_fits : (e floor : ℕ) → true ≡ energy_from floor e → e + 1 < 2 ^ 32
floor_fits e floor passed = omega (arith, leb-true e most_figure (and_both (leb e most_figure) (leb floor e) (sym passed)).0)

-- ---- The entries that stand whole

module _ (labels : List ℕ) (at : ℕ) where
  -- an entry whose time breaks a rule
  entry_bad_time : (j : ℕ) → at + 6 + 8 * j ≤ length labels → time_fits labels at j ≡ false → entry_number labels at j ≡ 17
  unfolding entry_number
  entry_bad_time j inside bad = rw (le-leb (at + 6 + 8 * j) (length labels) inside, bad)

  -- an entry whose energy does
  entry_bad_energy : (j : ℕ) → at + 10 + 8 * j ≤ length labels → time_fits labels at j ≡ true → energy_fits labels at j ≡ false → entry_number labels at j ≡ 17
  unfolding entry_number
  entry_bad_energy j inside good bad =
      rw (le-leb (at + 6 + 8 * j) (length labels) (omega arith), good, le-leb (at + 10 + 8 * j) (length labels) inside, bad)

  -- Of the first `whole` entries j are passed, none with a fault; the next is held against this ceiling and this floor
  pub record Tested (whole j ceiling floor : ℕ) : Type 0 where
    pub few : j ≤ whole
    pub left : first_fault (entry_number labels at) 0 whole ≡ faults_from (entry_number labels at) whole j
    pub is_ceiling : ceiling ≡ time_ceiling labels at j
    pub is_floor : floor ≡ energy_floor labels at j
    pub from-least : least_entry_energy (version_of labels) ≤ floor

  -- a 17 at entry j is the list's number
  fault_seventeen :
      {whole j ceiling floor : ℕ} → Tested whole j ceiling floor → j < whole → entry_number labels at j ≡ 17 →
      17 ≡ first_fault (entry_number labels at) 0 whole
  fault_seventeen tested h e = sym (tested.left ∙ fault-here (entry_number labels at) h (λ z. let y = sym e ∙ z in omega arith) ∙ e)

  module _ {whole j ceiling floor t : ℕ} (tested : Tested whole j ceiling floor) (h : j < whole)
      (inside : at + 2 + 8 * whole ≤ length labels) (is-time : t ≡ time_at labels at j) where
    -- a time against the rules refuses the list
    pub tested_bad_time : false ≡ time_below ceiling t → 17 ≡ first_fault (entry_number labels at) 0 whole
    tested_bad_time failed =
        fault_seventeen tested h (entry_bad_time j (omega arith) (sym (time-tested labels at j tested.is_ceiling is-time failed)))

    module _ {e : ℕ} (time-passed : true ≡ time_below ceiling t) (is-energy : e ≡ energy_at labels at j) where
      good_time : time_fits labels at j ≡ true
      good_time = sym (time-tested labels at j tested.is_ceiling is-time time-passed)

      energy_rule : {y : Bool} → y ≡ energy_from floor e → energy_fits labels at j ≡ y
      energy_rule energy-test = sym (energy-tested labels at j tested.from-least tested.is_floor is-energy energy-test)

      -- and so does an energy
      pub tested_bad_energy : false ≡ energy_from floor e → 17 ≡ first_fault (entry_number labels at) 0 whole
      tested_bad_energy failed = fault_seventeen tested h (entry_bad_energy j (omega arith) good_time (energy_rule failed))

      -- an entry that keeps both rules is passed
      pub tested_more : {next : ℕ} → true ≡ energy_from floor e → next ≡ e + 1 → Tested whole (j + 1) t next
      tested_more {next} passed is-next =
          rw (add-one j)
          (record {
            few = omega arith;
            left = tested.left ∙ fault-next (entry_number labels at) h (fits-entry fits) ∙ ap (faults_from (entry_number labels at) whole) (add-one j);
            is_ceiling = is-time;
            is_floor = is-next ∙ add-one e ∙ ap suc is-energy;
            from-least = omega (arith, is-next, tested.from-least, floor_below e floor passed);
          })
        where
          fits : EntryFits labels at j
          fits = record { inside = omega arith; fitting_time = good_time; fitting_energy = energy_rule passed }

  -- all passed: no fault
  pub tested_all : {whole j ceiling floor : ℕ} → Tested whole j ceiling floor → whole ≤ j → 0 ≡ first_fault (entry_number labels at) 0 whole
  tested_all tested h = sym (tested.left ∙ fault_end (entry_number labels at) h)

  -- ---- The entry that is cut off

  -- a time that is cut off
  pub cut_time : (j : ℕ) → length labels < at + 6 + 8 * j → 11 ≡ entry_number labels at j
  unfolding entry_number
  cut_time j cut = rw (lt-leb (at + 6 + 8 * j) (length labels) cut)

  -- a time that stands whole and breaks a rule
  pub cut_bad_time :
      (j : ℕ) {x : Bool} {t ceiling : ℕ} → at + 6 + 8 * j ≤ length labels → ceiling ≡ time_ceiling labels at j → t ≡ time_at labels at j →
      x ≡ time_below ceiling t → not x ≡ true → 17 ≡ entry_number labels at j
  cut_bad_time j {x} inside is_ceiling is-time test failed =
      sym (entry_bad_time j inside (sym (time-tested labels at j is_ceiling is-time test) ∙ not-true x failed))

  -- a time that keeps the rule, and an energy that is cut off
  pub cut_energy :
      (j : ℕ) {x : Bool} {t ceiling : ℕ} → at + 6 + 8 * j ≤ length labels → length labels < at + 10 + 8 * j → ceiling ≡ time_ceiling labels at j →
      t ≡ time_at labels at j → x ≡ time_below ceiling t → not x ≡ false → 11 ≡ entry_number labels at j
  unfolding entry_number
  cut_energy j {x} inside cut is_ceiling is-time test passed =
      rw (
        le-leb (at + 6 + 8 * j) (length labels) inside,
        sym (time-tested labels at j is_ceiling is-time test) ∙ not-false x passed,
        lt-leb (at + 10 + 8 * j) (length labels) cut,
      )

  -- ---- The list

  -- with a count that stands and fits, the entries decide
  pub list_by_entries :
      {number : ℕ} → at + 2 ≤ length labels → count_at labels at ≤ most_count → number ≡ first_fault (entry_number labels at) 0 (count_at labels at) →
      number ≡ list_number labels at
  unfolding list_number
  list_by_entries inside short e = rw (le-leb (at + 2) (length labels) inside, le-leb (count_at labels at) most_count short) e

  -- a count that is cut off
  pub list_cut : length labels < at + 2 → 11 ≡ list_number labels at
  unfolding list_number
  list_cut cut = rw (lt-leb (at + 2) (length labels) cut)

  -- a count above the most
  pub list-long : {count : ℕ} → at + 2 ≤ length labels → count ≡ count_at labels at → most_count < count → 17 ≡ list_number labels at
  unfolding list_number
  list-long inside is long = rw (le-leb (at + 2) (length labels) inside, lt-leb (count_at labels at) most_count (omega (arith, is)))

  module _ {count whole : ℕ} (inside : at + 2 ≤ length labels) (is : count ≡ count_at labels at) (short : count ≤ most_count) (some : Inside labels at count whole) where
    -- a fault among the entries that stand whole
    pub list_faulty : {number : ℕ} → number ≡ first_fault (entry_number labels at) 0 whole → (number ≡ 0 → ⊥) → number ≡ list_number labels at
    list_faulty e apart =
        list_by_entries inside (omega (arith, is))
        (fault-among (entry_number labels at) some.few e apart ∙ ap (first_fault (entry_number labels at) 0) is)

    -- none, and all stand whole
    pub list_passes : 0 ≡ first_fault (entry_number labels at) 0 whole → count ≤ whole → 0 ≡ list_number labels at
    list_passes e all = list_by_entries inside (omega (arith, is)) (e ∙ ap (first_fault (entry_number labels at) 0) (omega (arith, some.few, is)))

    -- none, and the next is cut off
    pub list_cut_entry :
        {last : ℕ} → 0 ≡ first_fault (entry_number labels at) 0 whole → whole < count → last ≡ entry_number labels at whole → last ≡ list_number labels at
    list_cut_entry e behind is_last =
        list_by_entries inside (omega (arith, is))
        (is_last ∙ sym (fault-here (entry_number labels at) behind fault) ∙
        sym (fault-behind (entry_number labels at) some.few (sym e)) ∙
        ap (first_fault (entry_number labels at) 0) is)
      where
        fault : entry_number labels at whole ≡ 0 → ⊥
        fault z = omega (arith, (entry-fits labels at whole z).inside, some.cut behind)
