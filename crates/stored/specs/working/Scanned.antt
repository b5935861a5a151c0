-- What the functions that pass over, find and load stored lists hand back.
use Rattle.std.specs.Prelude.{◌≡◌, Bool, ◌&&◌, List, ℕ, zero, suc, ◌+◌, ◌*◌, ◌≤◌, ◌<◌, leb, ltb, length, Result, IfOk, MatchResult}
use Rattle.tables.specs.working.Layout.{table_places}
use Rattle.refusals.specs.Order.{first_fault}
use Rattle.refusals.specs.Lent.{filled}
use Rattle.forest.specs.LabelVersions.{least_entry_energy, entry_bytes}
use Rattle.network.specs.NetworkFile.{version_of}
use Rattle.forest.specs.LabelFile.{count_at, time_at, energy_at, count_bytes, entries_end, list_end}
use Rattle.stored.specs.Stored.{lists_of, place_of, list_place, entries_before, tabulate}
use Rattle.stored.specs.declared.refusal.LabelRefusal.{LabelRefusal}
use Rattle.stored.specs.declared.stored.Scanned.{Scanned}
use Rattle.stored.specs.Refusal.{refusal_number, number_of}
use Rattle.stored.specs.ListForm.{most_figure, list_number, lists_number}
use Rattle.stored.specs.working.Formed.{StartsFilled}

-- The byte k lists behind the one at byte `at`
unfoldable pub further : List ℕ → ℕ → ℕ → ℕ
further labels at zero = at
further labels at (suc k) = list_end labels (further labels at k)

-- The list of v and its proper ancestor u is at byte `at`; it is one of the file's lists
pub record FoundList (labels : List ℕ) (v u at : ℕ) : Type 0 where
  pub place : at ≡ list_place labels v u
  pub number : ℕ
  pub below : number < lists_of labels
  pub stands : at ≡ place_of labels number

-- Entry j's time stays below the time before it; the first entry's below one more than the most
abbrev pub time_ceiling : List ℕ → ℕ → ℕ → ℕ
time_ceiling labels at zero = suc most_figure
time_ceiling labels at (suc j) = time_at labels at j

-- Entry j's energy is at least one more than the energy before it; the first entry's at least the least
abbrev pub energy_floor : List ℕ → ℕ → ℕ → ℕ
energy_floor labels at zero = least_entry_energy (version_of labels)
energy_floor labels at (suc j) = suc (energy_at labels at j)

-- A time from 1 to the most, and below a ceiling
abbrev pub time_below : ℕ → ℕ → Bool
time_below ceiling t = leb 1 t && leb t most_figure && ltb t ceiling

-- An energy from a floor to the most
abbrev pub energy_from : ℕ → ℕ → Bool
energy_from floor e = leb e most_figure && leb floor e

-- r is the byte behind so many entries of a list at byte `at`; an entry takes as many bytes in every version
pub record BehindEntries (at count r : ℕ) : Type 0 where
  pub each : (labels : List ℕ) → r ≡ entries_end labels at count

-- Of `count` entries of the list at byte `at`, `whole` stand whole in the file
pub record Inside (labels : List ℕ) (at count whole : ℕ) : Type 0 where
  pub few : whole ≤ count
  pub fits : entries_end labels at whole ≤ length labels
  pub cut : whole < count → length labels < entries_end labels at (suc whole)

-- Of so many lists from byte `at` on the first k are passed, none with a fault
pub record PassedSome (labels : List ℕ) (at lists total : ℕ) (k behind sum : ℕ) : Type 0 where
  pub few : k ≤ lists
  pub none : first_fault (λ i. list_number labels (further labels at i)) 0 k ≡ 0
  pub place : behind ≡ further labels at k
  pub inside : behind ≤ length labels
  pub counted : at + count_bytes * k + entry_bytes (version_of labels) * sum ≡ behind + entry_bytes (version_of labels) * total

-- After the k lists from byte `at` on: all of them are passed, or one is refused
abbrev pub ScannedSome : List ℕ → ℕ → ℕ → ℕ → Result Scanned LabelRefusal → Type 0
ScannedSome labels at k total r =
    MatchResult r
    (λ scanned. PassedSome labels at k total k scanned.at scanned.total)
    (λ refusal. refusal_number refusal ≡ first_fault (λ i. list_number labels (further labels at i)) 0 k)

-- After all lists: their number and, if they are passed, the byte behind the last, all entries, and where each junction's lists start
pub record AllScanned (labels tables : List ℕ) (scanned : Scanned) : Type 0 where
  pub behind : scanned.at ≡ place_of labels (lists_of labels)
  pub sum : scanned.total ≡ entries_before labels (lists_of labels)
  pub starts_filled : StartsFilled labels tables

pub record ScannedAll (labels tables : List ℕ) (r : Result Scanned LabelRefusal) : Type 0 where
  pub is : number_of r ≡ lists_number labels
  pub places : length tables ≡ table_places
  pub passed : IfOk r (AllScanned labels tables)

-- The list at byte `at` stands in the first places of two lent slices
pub record Loaded (labels : List ℕ) (at : ℕ) (times energies times_after energies_after : List ℕ) (count : ℕ) : Type 0 where
  pub is : count ≡ count_at labels at
  pub times_filled : times_after ≡ filled times (tabulate (time_at labels at) (count_at labels at))
  pub energies_filled : energies_after ≡ filled energies (tabulate (energy_at labels at) (count_at labels at))
