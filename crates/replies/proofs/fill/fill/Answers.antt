-- `replies::fill::fill` replies to line after line: each turn is `filling-more`.
use Rattle.std.proofs.Common.{arith, refl}
use Rattle.text.specs.Lines.{line_of}
use Rattle.replies.proofs.FillSteps.{filling-start, filling-more}
use Rattle.replies.proofs.fill.fill.Goals as goal

pub loop-next-init : goal.loop-next-init
loop-next-init c = (filling-start c.requires.input_len_bound.1, refl)

pub loop-next-preserved : goal.loop-next-preserved
unfolding line_of
loop-next-preserved c = (filling-more c.loop-next.invariant.0 (omega arith) (omega arith) c.line_end-end.ensures c.reply.ensures.put, cc)
