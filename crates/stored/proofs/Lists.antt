-- One stored list and its number of 11 to 17. In this order: the rules of one entry; a list whose number is 0 fits;
-- all lists; what the entries of a list that fits are.
use mathlib.Core.Path.{◌≡◌}
use mathlib.Core.Bool.{true, ◌&&◌}
use mathlib.Core.List.{List}
use Prim.Native.Nat.{ℕ, zero, suc, ◌+◌, ◌*◌, ◌≤◌, ◌<◌}
use native.Mathlib.Omega.{arith}
use lib.Dec.{leb}
use lib.ListN.{length}
use borrow.Author.Tests.{leb-true, ltb-true, le-leb}
use Rattle.paths.specs.Weights.{pair}
use Rattle.paths.specs.TradeOff.{Ordered, none, one, more}
use Rattle.refusals.specs.Order.{unless, first_fault}
use Rattle.refusals.proofs.Order.{unless-passed, and_both, and_true, no_fault}
use Rattle.forest.specs.LabelVersions.{least_entry_energy}
use Rattle.network.specs.NetworkFile.{version_of}
use Rattle.forest.specs.LabelFile.{count_at, time_at, energy_at, list_end}
use Rattle.stored.specs.Stored.{lists_of, place_of, tabulate, list_at}
use Rattle.stored.specs.ListForm.{most_count, most_figure, time_follows, energy_follows, time_fits, energy_fits, entry_number, list_number, lists_number}
use Rattle.stored.specs.working.Formed.{ListFits}

-- ---- The rules of one entry

-- a refusal number is not 0
never-zero : (number : ℕ) → suc number ≡ 0 → ⊥
never-zero number e = omega arith

-- Entry j of the list at byte `at` stands whole in the file and keeps the rules
pub record EntryFits (labels : List ℕ) (at j : ℕ) : Type 0 where
  pub inside : at + 10 + 8 * j ≤ length labels
  pub fitting_time : time_fits labels at j ≡ true
  pub fitting_energy : energy_fits labels at j ≡ true

-- an entry whose number is 0 keeps the rules
pub entry-fits : (labels : List ℕ) (at j : ℕ) → entry_number labels at j ≡ 0 → EntryFits labels at j
unfolding entry_number
entry-fits labels at j e =
    let a = unless-passed {test = leb (at + 6 + 8 * j) (length labels)} (never-zero 10) e in
    let b = unless-passed {test = time_fits labels at j} (never-zero 16) a.1 in
    let c = unless-passed {test = leb (at + 10 + 8 * j) (length labels)} (never-zero 10) b.1 in
    let d = unless-passed {test = energy_fits labels at j} {next = 0} (never-zero 16) c.1 in
    record { inside = leb-true _ _ c.0; fitting_time = b.0; fitting_energy = d.0 }

-- and back
pub fits-entry : {labels : List ℕ} {at j : ℕ} → EntryFits labels at j → entry_number labels at j ≡ 0
unfolding entry_number
fits-entry {labels} {at} {j} h =
    let inside = h.inside in
    rw (le-leb (at + 6 + 8 * j) (length labels) (omega arith), h.fitting_time, le-leb (at + 10 + 8 * j) (length labels) (omega arith), h.fitting_energy)

-- The rules, as facts about the numbers
pub record TimeRules (labels : List ℕ) (at j : ℕ) : Type 0 where
  pub least : 1 ≤ time_at labels at j
  pub most : time_at labels at j ≤ most_figure
  pub follows : time_follows labels at j ≡ true

pub record EnergyRules (labels : List ℕ) (at j : ℕ) : Type 0 where
  pub least : least_entry_energy (version_of labels) ≤ energy_at labels at j
  pub most : energy_at labels at j ≤ most_figure
  pub follows : energy_follows labels at j ≡ true

-- a time whose test holds keeps the rules
pub time-rules : {labels : List ℕ} {at j : ℕ} → time_fits labels at j ≡ true → TimeRules labels at j
unfolding time_fits
time-rules {labels} {at} {j} e =
    let a = and_both (leb 1 (time_at labels at j) && leb (time_at labels at j) most_figure) (time_follows labels at j) e in
    let b = and_both (leb 1 (time_at labels at j)) (leb (time_at labels at j) most_figure) a.0 in
    record { least = leb-true _ _ b.0; most = leb-true _ _ b.1; follows = a.1 }

-- likewise an energy, and back
pub energy-rules : {labels : List ℕ} {at j : ℕ} → energy_fits labels at j ≡ true → EnergyRules labels at j
unfolding energy_fits
energy-rules {labels} {at} {j} e =
    let a = and_both (leb (least_entry_energy (version_of labels)) (energy_at labels at j) && leb (energy_at labels at j) most_figure) (energy_follows labels at j) e in
    let b = and_both (leb (least_entry_energy (version_of labels)) (energy_at labels at j)) (leb (energy_at labels at j) most_figure) a.0 in
    record { least = leb-true _ _ b.0; most = leb-true _ _ b.1; follows = a.1 }

pub rules-energy : {labels : List ℕ} {at j : ℕ} → EnergyRules labels at j → energy_fits labels at j ≡ true
unfolding energy_fits
rules-energy h = and_true (and_true (le-leb _ _ h.least) (le-leb _ _ h.most)) h.follows

-- ---- A list whose number is 0 fits

-- a list whose number is 0 fits
pub list-fits : (labels : List ℕ) (at : ℕ) → list_number labels at ≡ 0 → ListFits labels at
unfolding list_number list_end
list-fits labels at e = built
  where
    count-inside : (leb (at + 2) (length labels) ≡ true) × (unless (leb (count_at labels at) most_count) 17 (first_fault (entry_number labels at) 0 (count_at labels at)) ≡ 0)
    count-inside = unless-passed (never-zero 10) e

    count_fits : (leb (count_at labels at) most_count ≡ true) × (first_fault (entry_number labels at) 0 (count_at labels at) ≡ 0)
    count_fits = unless-passed (never-zero 16) count-inside.1

    entry : (j : ℕ) → j < count_at labels at → EntryFits labels at j
    entry j h = entry-fits labels at j (no_fault (entry_number labels at) (count_at labels at) count_fits.1 (omega arith) (omega arith))

    -- the last entry ends where the list does
    ends : (count : ℕ) → ((j : ℕ) → j < count → EntryFits labels at j) → at + 2 + 8 * count ≤ length labels
    ends zero all = omega (arith, leb-true (at + 2) (length labels) count-inside.0)
    ends (suc j) all = omega (arith, (all j (omega arith)).inside)

    time : (j : ℕ) → j < count_at labels at → TimeRules labels at j
    time j h = time-rules (entry j h).fitting_time

    energies : (j : ℕ) → j < count_at labels at → EnergyRules labels at j
    energies j h = energy-rules (entry j h).fitting_energy

    built : ListFits labels at
    built =
        record {
          short = leb-true _ _ count_fits.0;
          inside = ends (count_at labels at) entry;
          fitting_time = λ j h. ((time j h).least, (time j h).most);
          fitting_energy = λ j h. ((energies j h).least, (energies j h).most);
          time_falls = λ j h. ltb-true _ _ (time (suc j) h).follows;
          energy_rises = λ j h. ltb-true _ _ (energies (suc j) h).follows;
        }

-- ---- All lists

-- where no list has a fault, every list fits
pub lists_fit : (labels : List ℕ) → lists_number labels ≡ 0 → {g : ℕ} → g < lists_of labels → ListFits labels (place_of labels g)
unfolding lists_number
lists_fit labels e {g} h = list-fits labels (place_of labels g) (no_fault (λ g. list_number labels (place_of labels g)) (lists_of labels) e (omega arith) (omega arith))

-- ---- What the entries of a list that fits are

-- a table of entries whose energies rise and whose times fall is ordered
pub ordered-tabulate :
    (t e : ℕ → ℕ) (n : ℕ) →
    ((j : ℕ) → suc j < n → e j < e (suc j)) →
    ((j : ℕ) → suc j < n → t (suc j) < t j) →
    Ordered (tabulate (λ j. pair (t j) (e j)) n)
unfolding tabulate
ordered-tabulate t e zero rises falls = none
ordered-tabulate t e (suc zero) rises falls = one
ordered-tabulate t e (suc (suc n)) rises falls =
    more (rises 0 (omega arith)) (falls 0 (omega arith))
    (ordered-tabulate (λ j. t (suc j)) (λ j. e (suc j)) (suc n) (λ j h. rises (suc j) (omega arith)) (λ j h. falls (suc j) (omega arith)))

-- the entries of a list that fits are ordered
pub list-ordered : {labels : List ℕ} {at : ℕ} → ListFits labels at → Ordered (list_at labels at)
list-ordered {labels} {at} fits = ordered-tabulate (time_at labels at) (energy_at labels at) (count_at labels at) fits.energy_rises fits.time_falls
