-- What the functions that pass over runs of short lists hand back.
use Rattle.std.specs.Prelude.{◌≡◌, List, ℕ, ◌+◌, ◌*◌, ◌≤◌, ◌<◌}
use Rattle.forest.specs.LabelFile.{count_at, entries_end, short_bytes}
use Rattle.stored.specs.ListForm.{most_figure, entry_number, list_number}

-- An energy up to the most, and above the one before it
pub record EnergyFollows (before e : ℕ) : Type 0 where
  pub most : e ≤ most_figure
  pub rises : before < e

-- The first r of two places for entries, from byte `at` on, keep the rules
pub record Leading (labels : List ℕ) (at r : ℕ) : Type 0 where
  pub few : r ≤ 2
  pub fit : (j : ℕ) → j < r → entry_number labels at j ≡ 0

-- A list of one entry without fault
pub record SingleList (labels : List ℕ) (at : ℕ) : Type 0 where
  pub one : count_at labels at ≡ 1
  pub fits : list_number labels at ≡ 0

-- A list of at most two entries, as many as its count, without fault
pub record ShortList (labels : List ℕ) (at count : ℕ) : Type 0 where
  pub is : count ≡ count_at labels at
  pub short : count ≤ 2
  pub fits : list_number labels at ≡ 0

-- r of the lists stand in so many bytes, if none has more than two entries
pub record Quick (bytes lists r : ℕ) : Type 0 where
  pub few : r ≤ lists
  pub inside : short_bytes * r ≤ bytes

-- A run of lists and one list more, of so many entries
pub record OneMore (lists at total count : ℕ) (more behind sum : ℕ) : Type 0 where
  pub listed : more ≡ lists + 1
  pub place : (labels : List ℕ) → behind ≡ entries_end labels at count
  pub counted : sum ≡ total + count
