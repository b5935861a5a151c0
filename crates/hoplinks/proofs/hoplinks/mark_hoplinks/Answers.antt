-- The loop has marked what the roads below k put into the working set of l; before the first road that is l alone.
use native.Mathlib.Omega.{arith}
use Rattle.hoplinks.proofs.Branches.{depth-read}
use Rattle.hoplinks.proofs.Marks.{marking-start, marking-more, marking_end}
use Rattle.hoplinks.proofs.hoplinks.mark_hoplinks.Goals as goal

pub loop-k-init : goal.loop-k-init
loop-k-init c = marking-start (depth-read c.requires.1 c.requires.2) c.mark_itself.ensures

pub loop-k-preserved : goal.loop-k-preserved
loop-k-preserved c = marking-more c.requires.0.formed.parents c.requires.2 c.loop-k.invariant c.road_mark.ensures

pub returns : goal.returns
returns c = marking_end c.requires.0.formed.parents c.requires.2 c.loop-k.invariant (omega arith)
