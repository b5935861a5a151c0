-- Beside a network the two tests are those of `same_network`, in its order.
use Rattle.files.proofs.FormTests.{other_size, same_size}
use Rattle.files.proofs.form.network_fits.Goals as goal

pub returns-then-n-junctions_of : goal.returns-then-n-junctions_of
returns-then-n-junctions_of c = rw c.in-Some.is (same_size _ _ c.junctions_of-n.ensures c.junctions_of.ensures c.if-n-junctions_of.true c.identity_of.ensures c.identity_of-then-n-junctions_of.ensures)

pub returns-else-n-junctions_of : goal.returns-else-n-junctions_of
returns-else-n-junctions_of c = rw c.in-Some.is (other_size _ _ c.junctions_of-n.ensures c.junctions_of.ensures c.if-n-junctions_of.false)
