-- `replies::program::print_replies`: each turn hands on one filled buffer more (`handing_more`), from where the one before ended.
use native.Mathlib.Omega.{arith}
use Rattle.replies.proofs.HandingOn.{handing_start, handing_more, handed_all}
use Rattle.replies.proofs.program.print_replies.Goals as goal

pub loop-next-init : goal.loop-next-init
loop-next-init c = handing_start (omega arith) (omega arith) (omega arith) (omega arith)

pub hand_on-total-requires : goal.hand_on-total-requires
hand_on-total-requires c = (omega (arith, c.fill-filled.ensures.inside), omega (arith, c.fill-filled.ensures.places), omega (arith, c.loop-next.invariant.few, c.loop-next.invariant.near))

pub loop-next-smaller : goal.loop-next-smaller
loop-next-smaller c = omega (arith, c.fill-filled.ensures.onward c.loop-next-test.true)

pub loop-next-preserved : goal.loop-next-preserved
loop-next-preserved c = handing_more c.loop-next.invariant c.loop-next-test.true
    c.fill-filled.ensures (omega arith)

pub returns : goal.returns
returns c = search (handed_all)
