-- The network file (SCOPE 3.1, 3.2, 4.3): its numbers, and its roads as arcs.
use Rattle.std.specs.Prelude.{◌≡◌, ◌⊎◌, List, ℕ, ◌+◌, ◌*◌, ◌≤◌, ◌<◌}
use Rattle.paths.specs.Weights.{weights, energy, pair, time}
use Rattle.paths.specs.Network.{Network}
use Rattle.file_bytes.specs.Bytes.{u16_at, u32_at}
use Rattle.network.specs.Versions.{record_bytes}

-- The header (SCOPE 3.1); the label file has version, n and identity at the same bytes
abbrev pub version_of : List ℕ → ℕ
version_of file = u16_at file 3

abbrev pub junctions_of : List ℕ → ℕ
junctions_of file = u16_at file 6

abbrev pub roads_of : List ℕ → ℕ
roads_of net = u32_at net 8

abbrev pub identity_of : List ℕ → ℕ
identity_of file = u32_at file 12

abbrev pub header_bytes : ℕ
header_bytes = 16

-- Where a byte of record k stands: the records follow the header, all of one length
abbrev pub record_at : List ℕ → ℕ → ℕ → ℕ
record_at net k byte = header_bytes + byte + record_bytes (version_of net) * k

-- The byte behind record k
abbrev pub record_end : List ℕ → ℕ → ℕ
record_end net k = record_at net k (record_bytes (version_of net))

-- Record k (SCOPE 3.2)
abbrev pub road_low : List ℕ → ℕ → ℕ
road_low net k = u16_at net (record_at net k 0)

abbrev pub road_high : List ℕ → ℕ → ℕ
road_high net k = u16_at net (record_at net k 2)

abbrev pub road_time : List ℕ → ℕ → ℕ
road_time net k = u16_at net (record_at net k 4)

abbrev pub road_energy : List ℕ → ℕ → ℕ
road_energy net k = u16_at net (record_at net k 6)

-- ---- The roads as arcs

-- Record k used from x to y, in either direction; an arc of any network takes time, as 6 sees to
pub record RoadArc (net : List ℕ) (x y k : ℕ) (w : (weights energy).Figure) : Type 0 where
  pub stands : k < roads_of net
  pub ends : ((x ≡ road_low net k) × (y ≡ road_high net k)) ⊎ ((x ≡ road_high net k) × (y ≡ road_low net k))
  pub weighs : w ≡ pair (road_time net k) (road_energy net k)
  pub slow : 1 ≤ time energy w

-- The network of a file's bytes
abbrev pub network_of : List ℕ → Network energy
network_of net = record { Arc = RoadArc net; takes_time = λ a. a.slow }
