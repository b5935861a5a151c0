-- Where each part of the lent table begins, and what it means that a part stays.
use Rattle.std.specs.Prelude.{◌≡◌, List, ℕ, ◌<◌, length, get_or}

-- The byte where the lists of junction v start, at v
abbrev pub starts_from : ℕ
starts_from = 0

-- The first road of junction v, at v behind this place
abbrev pub firsts_from : ℕ
firsts_from = 1024

-- The road that follows road k at its lower end, at 2k, and at its higher end, at 2k + 1 behind this place
abbrev pub nexts_from : ℕ
nexts_from = 2048

-- The junctions in order, the spot of each in that order, and the size of each one's block
abbrev pub order_from : ℕ
order_from = 10240

abbrev pub spots_from : ℕ
spots_from = 11264

abbrev pub sizes_from : ℕ
sizes_from = 12288

abbrev pub table_places : ℕ
table_places = 13312

-- The places below one are as they were
pub record StaysBelow (end : ℕ) (before after : List ℕ) : Type 0 where
  pub one_length : length after ≡ length before
  pub stays : (i : ℕ) → i < end → get_or after i 0 ≡ get_or before i 0
