-- The digits are a number unless there is none, their value is too large, or a zero leads others.
use Rattle.std.proofs.Common.{arith}
use Rattle.text.proofs.NumberSteps.{no_digits, leading_zero, too_large, number_stands}
use Rattle.text.proofs.read.read_number.Goals as goal
use Rattle.text.proofs.read.read_number.Goals.{then-next-start-via-then-next-start, then-next-start-via-else-next-start+then-not-fits, else-next-start-2-via-then-next-start-2+else-input-start-eq48, else-next-start-2-via-else-next-start-2}

pub returns-then-next-start : goal.returns-then-next-start
returns-then-next-start c =
    elim c.then-next-start.branch [
      | then-next-start-via-then-next-start w ↦ no_digits c.requires.1 c.read_digits-value.ensures w.if-next-start.true
      | then-next-start-via-else-next-start+then-not-fits w ↦ too_large c.requires.1 c.read_digits-value.ensures (w.fits.ensures.fails w.if-not-fits.true)
    ]

pub returns-then-input-start-eq48 : goal.returns-then-input-start-eq48
returns-then-input-start-eq48 c = leading_zero c.requires.1 c.read_digits-value.ensures c.if-next-start-2.true c.if-input-start-eq48.true

pub returns : goal.returns
returns c =
    number_stands c.requires.1 c.read_digits-value.ensures c.if-next-start.false
    (elim c.else-next-start-2.branch [
      | else-next-start-2-via-then-next-start-2+else-input-start-eq48 w ↦ (λ h. w.if-input-start-eq48.false)
      | else-next-start-2-via-else-next-start-2 w ↦ (λ h. absurd (omega arith))
    ])
    (c.fits.ensures.holds c.if-not-fits.false)
