-- No newline stands before `end`.
use Rattle.text.specs.working.Reading.{NoNewline}
use Rattle.text.proofs.read.line_end.Given as goal

abbrev pub invariant-loop-end : goal.invariant-loop-end
invariant-loop-end l = NoNewline l.input l.start l.end
