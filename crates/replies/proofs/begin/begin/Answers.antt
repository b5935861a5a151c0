-- The check decides which line is put; an accepted set has both headers.
use Rattle.std.proofs.Common.{refl, arith}
use Rattle.replies.proofs.FirstLines.{net_long, labels-long}
use Rattle.replies.proofs.begin.begin.Goals as goal

pub junctions_of-requires : goal.junctions_of-requires
junctions_of-requires c = omega (arith, net_long c.in-Ok.ensures refl)

pub roads_of-requires : goal.roads_of-requires
roads_of-requires c = omega (arith, net_long c.in-Ok.ensures refl)

pub entries_of-requires : goal.entries_of-requires
entries_of-requires c = omega (arith, labels-long c.in-Ok.ensures refl)
