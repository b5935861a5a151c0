-- A parent is a junction.
use native.Mathlib.Omega.{arith}
use Rattle.forest.proofs.Forest.{parent_up}
use Rattle.forest.proofs.feet.parents_noted.Goals as goal

pub bounds-has_child-parent : goal.bounds-has_child-parent
bounds-has_child-parent c = omega (arith, parent_up c.requires.parents_fit c.in-Some.ensures)
