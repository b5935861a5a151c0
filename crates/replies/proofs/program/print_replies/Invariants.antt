-- `replies::program::print_replies`: each turn hands on one filled buffer more (`handing_more`), from where the one before ended.
use Prim.Native.Nat.{◌-◌}
use lib.ListN.{length}
use Rattle.replies.proofs.HandingOn.{HandingOn}
use Rattle.replies.proofs.program.print_replies.Given as goal

abbrev pub invariant-loop-next : goal.invariant-loop-next
invariant-loop-next l = HandingOn l.set.net.now l.input l.before l.out l.next l.total

abbrev pub decreases-loop-next : goal.decreases-loop-next
decreases-loop-next l = length l.input - l.next
