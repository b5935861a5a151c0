-- Each count has 16 bits, so their product fits.
use native.Mathlib.Omega.{arith}
use Rattle.query.proofs.PassLaws.{product_small, counts_product}
use Rattle.query.proofs.passing.product_at.Goals as goal

pub overflow_mul-result : goal.overflow_mul-result
overflow_mul-result c = omega (arith, product_small _ _ c.count_at-first.ensures.small c.count_at-second.ensures.small)

pub returns : goal.returns
returns c = counts_product _ _ c.count_at-first.ensures c.count_at-second.ensures
