-- A refusal carries its number and no count.
use Rattle.measured.proofs.measured_list.Goals as goal

pub returns-in-Err : goal.returns-in-Err
returns-in-Err c = rw c.number.ensures c.in-Err.ensures.list_answered
