-- One place of each slice is enough for the pair of the path that stays.
use mathlib.Core.Path.{refl}
use native.Mathlib.Omega.{arith}
use Rattle.accepted.proofs.ListAnswers.{itself_too_long, itself_put}
use Rattle.accepted.proofs.list.list_of_itself.Goals as goal

pub bounds-times-0 : goal.bounds-times-0
bounds-times-0 c = omega (arith, c.shorter.ensures, c.if-shorter-gt0.true)

pub bounds-energies-0 : goal.bounds-energies-0
bounds-energies-0 c = omega (arith, c.shorter.ensures, c.if-shorter-gt0.true)

pub returns-then-shorter-gt0 : goal.returns-then-shorter-gt0
returns-then-shorter-gt0 c = record { list_put = itself_put c.shorter.ensures c.if-shorter-gt0.true; result_value = refl }

pub returns : goal.returns
returns c = record { list_put = itself_too_long c.shorter.ensures c.if-shorter-gt0.false; result_value = refl }
