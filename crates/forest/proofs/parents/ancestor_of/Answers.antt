-- The loop is at the ancestor that it has climbed to, and stops at the k-th.
use mathlib.Core.Path.{sym}
use native.Mathlib.Omega.{arith}
use Rattle.forest.proofs.Chains.{ancestor-none}
use Rattle.forest.proofs.ParentLoops.{climb_on_map, climb_end, climb-more}
use Rattle.forest.proofs.parents.ancestor_of.Goals as goal

pub loop-init : goal.loop-init
loop-init c = sym (ancestor-none c.args.labels.now c.args.v)

pub parent_at-u-requires : goal.parent_at-u-requires
parent_at-u-requires c = omega (arith, climb_on_map c.requires.parents_fit c.requires.v_bound c.requires.k_bound c.loop.invariant c.loop.auto.counter-end)

pub loop-preserved : goal.loop-preserved
loop-preserved c = climb-more c.args.labels.now c.args.v c.loop.counter c.loop.invariant c.parent_at-u.ensures.is

pub returns : goal.returns
returns c = climb_end c.requires.parents_fit c.requires.v_bound c.requires.k_bound c.loop.invariant c.loop.auto.counter-end c.loop-test.false
