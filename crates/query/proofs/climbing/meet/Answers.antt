-- No common ancestor is as deep as the climbs, so the first parents that are one are where the branches meet.
use mathlib.Core.Path.{◌≡◌}
use Prim.Native.Nat.{suc, ◌+◌, ◌-◌}
use native.Mathlib.Omega.{arith}
use Rattle.query.proofs.ClimbLaws.{climb-inside, abreast_ends, abreast_more, abreast_meets}
use Rattle.query.proofs.climbing.meet.Goals as goal

pub step-above_left-requires-clause-up_in_bounds : goal.step-above_left-requires-clause-up_in_bounds
step-above_left-requires-clause-up_in_bounds c = climb-inside c.requires.formed c.loop-level.invariant.near_climbs (omega (arith, c.loop-level-test.true))

pub step-above_right-requires-clause-up_in_bounds : goal.step-above_right-requires-clause-up_in_bounds
step-above_right-requires-clause-up_in_bounds c = climb-inside c.requires.formed c.loop-level.invariant.far_climbs (omega (arith, c.loop-level-test.true))

pub returns-then-above_left-above_right : goal.returns-then-above_left-above_right
returns-then-above_left-above_right c =
    let e : c.loop-level.level ≡ suc (c.loop-level.level - 1) = omega (arith, c.loop-level-test.true) in
    let back : c.loop-level.level - 1 + 1 ≡ c.loop-level.level = omega (arith, c.loop-level-test.true) in
    rw back (abreast_meets c.requires.formed c.loop-level.invariant e c.step-above_left.ensures c.step-above_right.ensures c.if-above_left-above_right.true)

pub loop-level-preserved : goal.loop-level-preserved
loop-level-preserved c = let e : c.loop-level.level ≡ suc (c.loop-level.level - 1) = omega (arith, c.loop-level-test.true) in
    abreast_more c.requires.formed c.loop-level.invariant e c.step-above_left.ensures c.step-above_right.ensures c.if-above_left-above_right.false

pub returns : goal.returns
returns c = abreast_ends c.requires.formed c.loop-level.invariant (omega (arith, c.loop-level-test.false))
