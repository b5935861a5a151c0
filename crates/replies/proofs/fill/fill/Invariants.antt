-- `replies::fill::fill` replies to line after line: each turn is `filling-more`.
use Prim.Native.Nat.{◌-◌}
use lib.ListN.{length}
use mathlib.Core.Path.{◌≡◌}
use Rattle.replies.proofs.FillSteps.{Filling}
use Rattle.replies.proofs.fill.fill.Given as goal

abbrev pub invariant-loop-next : goal.invariant-loop-next
invariant-loop-next l = Filling l.set.net.now l.input l.from l.writer.out.now l.next l.writer.used × (l.writer.out.ghost_name ≡ l.initial.writer.out.ghost_name)

abbrev pub decreases-loop-next : goal.decreases-loop-next
decreases-loop-next l = length l.input - l.next
