-- A product of counts is 1 only where each is, and then each list ends ten bytes behind its start.
use native.Mathlib.Omega.{arith}
use borrow.Author.Tests.{eqb-true}
use Rattle.query.proofs.PassLaws.{product_fits, products_tell}
use Rattle.query.proofs.passing.four_single.Goals as goal

pub overflow_mul-result : goal.overflow_mul-result
overflow_mul-result c = omega (arith, product_fits _ _ c.product_at-first.ensures.small c.product_at-second.ensures.small)

pub returns : goal.returns
returns c = λ e. products_tell c.product_at-first.ensures c.product_at-second.ensures (eqb-true _ 1 e)
