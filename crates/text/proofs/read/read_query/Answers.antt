-- Each way out of the reader is a law of query lines: what was read so far stands there, and what is missing no query line lacks.
use Rattle.text.proofs.NumberSteps.{number_at, no_number}
use Rattle.text.proofs.QuerySteps.{no_first, no_first_space, no_second, no_second_space, no_third, bytes_left, query_stands}
use Rattle.text.proofs.read.read_query.Goals as goal

pub returns-in_err-from : goal.returns-in_err-from
returns-in_err-from c = rw c.from_residual.ensures (no_first c.requires.0 c.requires.1 (no_number c.in_err-from.ensures))

pub returns-then-not-space_at : goal.returns-then-not-space_at
returns-then-not-space_at c =
    no_first_space c.requires.0 c.requires.1 (number_at c.in_ok-from.ensures) (c.space_at.ensures.fails c.if-not-space_at.true)

pub returns-in_err-to : goal.returns-in_err-to
returns-in_err-to c =
    rw c.from_residual-in_err-to.ensures (no_second c.requires.0 c.requires.1 (number_at c.in_ok-from.ensures) (no_number c.in_err-to.ensures))

pub returns-then-not-space_at-2 : goal.returns-then-not-space_at-2
returns-then-not-space_at-2 c =
    no_second_space c.requires.0 c.requires.1 (number_at c.in_ok-from.ensures) (number_at c.in_ok-to.ensures) (c.space_at-2.ensures.fails c.if-not-space_at-2.true)

pub returns-in_err-limit : goal.returns-in_err-limit
returns-in_err-limit c =
    rw c.from_residual-in_err-limit.ensures (no_third c.requires.0 c.requires.1 (number_at c.in_ok-from.ensures) (number_at c.in_ok-to.ensures) (no_number c.in_err-limit.ensures))

pub returns-then-after_limit-end : goal.returns-then-after_limit-end
returns-then-after_limit-end c =
    bytes_left c.requires.0 c.requires.1 (number_at c.in_ok-from.ensures) (number_at c.in_ok-to.ensures) (number_at c.in_ok-limit.ensures) c.if-after_limit-end.true

pub returns : goal.returns
returns c =
    query_stands c.requires.0 c.requires.1 (number_at c.in_ok-from.ensures) (number_at c.in_ok-to.ensures) (number_at c.in_ok-limit.ensures)
    (c.space_at.ensures.holds c.if-not-space_at.false)
    (c.space_at-2.ensures.holds c.if-not-space_at-2.false)
    c.if-after_limit-end.false
