-- The refusals 1 to 6 of a network file, in their order (SCOPE 4.2, 4.3).
use Rattle.std.specs.Prelude.{Bool, true, ◌&&◌, ◌||◌, List, ℕ, zero, suc, leb, ltb, eqb, length}
use Rattle.refusals.specs.Order.{unless, decided, first_fault}
use Rattle.file_bytes.specs.Bytes.{marked}
use Rattle.network.specs.declared.versions.Served.{Served}
use Rattle.network.specs.Versions.{served, least_energy}
use Rattle.network.specs.NetworkFile.{version_of, junctions_of, roads_of, header_bytes, record_at, road_low, road_high, road_time, road_energy}

-- ---- A record

-- Record k stands after the one before it: by lower end, then by higher end
abbrev pub record_rises : List ℕ → ℕ → Bool
record_rises net zero = true
record_rises net (suc k) =
    ltb (road_low net k) (road_low net (suc k))
    || (eqb (road_low net k) (road_low net (suc k)) && ltb (road_high net k) (road_high net (suc k)))

-- 5: the ends are a lower and a higher junction, and the record stands after the one before it
unfoldable pub ends_fit : List ℕ → ℕ → Bool
ends_fit net k = ltb (road_low net k) (road_high net k) && ltb (road_high net k) (junctions_of net) && record_rises net k

-- 6: it takes time, and the energy that its version asks
unfoldable pub figures_fit : List ℕ → ℕ → Bool
figures_fit net k = leb 1 (road_time net k) && leb (least_energy (version_of net)) (road_energy net k)

-- 5 of a record, then 6
unfoldable pub record_number : List ℕ → ℕ → ℕ
record_number net k =
    unless (ends_fit net k) 5
    (unless (figures_fit net k) 6
    0)

-- ---- The whole file

-- 4: how many junctions and roads there may be
unfoldable pub sizes_fit : List ℕ → Bool
sizes_fit net = leb 1 (junctions_of net) && leb (junctions_of net) 1024 && leb (roads_of net) 4096

-- The header's number, 0 where the records decide
unfoldable pub header_number : Served → List ℕ → ℕ
header_number serves net =
    unless (leb header_bytes (length net)) 1
    (unless (marked 84 82 78 net) 2
    (unless (served serves (version_of net)) 3
    (unless (sizes_fit net) 4
    (unless (eqb (length net) (record_at net (roads_of net) 0)) 1
    0))))

-- The header's number, then that of the first record that is refused
unfoldable pub net_number : Served → List ℕ → ℕ
net_number serves net = decided (header_number serves net) (first_fault (record_number net) 0 (roads_of net))
