-- The tests are the definition's, in its order.
use borrow.Author.Tests.{le-leb, lt-leb}
use Rattle.network.proofs.versions.Served.includes.Goals as goal

pub returns-then-self-version : goal.returns-then-self-version
returns-then-self-version c = simp (le-leb _ _ c.if-self-version.true)

pub returns-else-self-version : goal.returns-else-self-version
returns-else-self-version c = simp (lt-leb _ _ c.if-self-version.false)
