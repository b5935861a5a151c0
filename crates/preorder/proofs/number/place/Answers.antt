-- A root stands at its offset; a child's parent is placed already, and the child stands at its offset behind it.
use native.Mathlib.Omega.{arith}
use Rattle.preorder.proofs.Placing.{placed-root, parent-inside, spot-small, placed-child}
use Rattle.preorder.proofs.number.place.Goals as goal

pub returns-then-parent-eq-NO_PARENT : goal.returns-then-parent-eq-NO_PARENT
returns-then-parent-eq-NO_PARENT c = search (placed-root)

pub bounds-spots-above : goal.bounds-spots-above
bounds-spots-above c = search (parent-inside)

pub overflow_add-spots : goal.overflow_add-spots
overflow_add-spots c = omega (
  arith,
  c.requires.parents_fit.0.ends c.args.v c.requires.parents_fit.1,
  spot-small
      c.requires.parents_fit.0
      c.requires.parents_fit.1
      c.requires.parents_fit.2
      c.requires.placed
      c.parent_at-parent.ensures.is
      c.if-parent-eq-NO_PARENT.false,
)

pub returns : goal.returns
returns c = search (placed-child)
