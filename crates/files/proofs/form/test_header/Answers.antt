-- The tests are the definition's, in its order.
use native.Mathlib.Omega.{arith}
use Rattle.files.proofs.FormTests.{header_unmarked, header_unserved, header_passes}
use Rattle.files.proofs.form.test_header.Goals as goal

pub returns-then-not-marked : goal.returns-then-not-marked
returns-then-not-marked c = header_unmarked _ _ (omega arith) (omega arith) c.if-not-marked.ensures

pub returns-then-not-includes : goal.returns-then-not-includes
returns-then-not-includes c = header_unserved _ _ (omega arith) (omega arith) c.if-not-marked.ensures c.version_of.ensures c.if-not-includes.ensures

pub returns : goal.returns
returns c = header_passes _ _ (omega arith) (omega arith) c.if-not-marked.ensures c.version_of.ensures c.if-not-includes.ensures
