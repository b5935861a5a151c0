-- What was read stands behind what was read before.
use Rattle.std.proofs.Common.{rules, subst}
use Rattle.std.specs.Io.KnownBytes.{Consumes}
use Rattle.std.proofs.KnownBytes.{Consumes-trans}
use Rattle.reading.proofs.Pieces.{front_grows}
use Rattle.reading.proofs.read_full.Goals as goal

pub loop-done-preserved : goal.loop-done-preserved
loop-done-preserved g c =
    let before = c.loop-done.invariant in
    let read = c.read_once-count.ensures in
    (search rules, search rules, subst (Consumes _ _) (front_grows _ _ _ _ _ before.1 read.prefix.0) (Consumes-trans _ _ _ _ _ before.2 read.bytes))
