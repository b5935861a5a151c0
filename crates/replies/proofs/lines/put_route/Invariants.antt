-- The junctions so far are put.
use Rattle.std.proofs.Common.{◌≡◌, ◌+◌}
use Rattle.replies.proofs.LineLaws.{RoutePut}
use Rattle.replies.proofs.lines.put_route.Given as goal

abbrev pub invariant-loop-junction : goal.invariant-loop-junction
invariant-loop-junction l = RoutePut l.initial.writer.out.now l.initial.writer.used l.junctions l.writer.out.now (l.junction-index + 1) l.writer.used
    × (l.writer.out.ghost_name ≡ l.initial.writer.out.ghost_name)
