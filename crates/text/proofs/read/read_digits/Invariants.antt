-- Digits alone stand before `next`, and the value is what they spell.
use Rattle.text.specs.working.Reading.{DigitsTo}
use Rattle.text.proofs.read.read_digits.Given as goal

abbrev pub invariant-loop-next : goal.invariant-loop-next
invariant-loop-next l = DigitsTo l.input l.start l.next l.value
