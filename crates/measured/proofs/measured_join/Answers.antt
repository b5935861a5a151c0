-- The number of a refusal is the one that Join states.
use Rattle.measured.proofs.measured_join.Goals as goal

pub returns-in-Err : goal.returns-in-Err
returns-in-Err c = rw c.number.ensures c.in-Err.ensures
