-- The junctions below v are listed at their spots, and as no two have one spot none is written over.
use Rattle.preorder.specs.working.Blocks.{Listed}
use Rattle.preorder.proofs.number.list_order.Given as goal

abbrev pub invariant-loop-v : goal.invariant-loop-v
invariant-loop-v l = Listed l.spots l.order l.v
