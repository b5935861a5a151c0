-- A root's block goes behind the roots so far, a child's behind what its parent's block has, so behind its siblings.
use native.Mathlib.Omega.{arith}
use Rattle.preorder.proofs.Merging.{root-total, merged_root, parent-inside, child-total, merged_child}
use Rattle.preorder.proofs.number.merge.Goals as goal

pub overflow_add-result : goal.overflow_add-result
overflow_add-result c = omega (arith, root-total c.requires.parents_fit.0 c.requires.parents_fit.1 c.requires.merged c.parent_at-parent.ensures.is c.if-parent-eq-NO_PARENT.true)

pub returns-then-parent-eq-NO_PARENT : goal.returns-then-parent-eq-NO_PARENT
returns-then-parent-eq-NO_PARENT c = search (merged_root)

pub bounds-sizes-above : goal.bounds-sizes-above
bounds-sizes-above c = search (parent-inside)

pub overflow_add-sizes : goal.overflow_add-sizes
overflow_add-sizes c = omega (
  arith,
  child-total
      c.requires.parents_fit.0
      c.requires.parents_fit.1
      c.requires.merged
      c.parent_at-parent.ensures.is
      c.if-parent-eq-NO_PARENT.false,
)

pub bounds-sizes-above-2 : goal.bounds-sizes-above-2
bounds-sizes-above-2 c = search (parent-inside)

pub returns : goal.returns
returns c = search (merged_child)
