-- After each turn the place is four lists further.
use mathlib.Core.Path.{◌≡◌}
use Prim.Native.Nat.{◌+◌, ◌-◌}
use native.Mathlib.Omega.{arith}
use Rattle.stored.proofs.Places.{moved_none}
use Rattle.query.proofs.PassLaws.{moved-ahead, moved_by, moved-rest}
use Rattle.query.proofs.passing.pass_lists.Goals as goal

pub loop-left-init : goal.loop-left-init
loop-left-init c =
    let none : c.args.lists - c.args.lists ≡ 0 = omega arith in
    record { moved = rw none (moved_none _ _ _); few = omega arith }

pub four_further-here-requires-clause-at_in_bounds : goal.four_further-here-requires-clause-at_in_bounds
four_further-here-requires-clause-at_in_bounds c = moved-ahead c.loop-left.invariant.moved 4 (omega (arith, c.loop-left.invariant.few)) c.requires.lists_in_bounds

pub loop-left-preserved : goal.loop-left-preserved
loop-left-preserved c =
    let next : c.args.lists - (c.loop-left.left - 4) ≡ c.args.lists - c.loop-left.left + 4 = omega (arith, c.loop-left.invariant.few) in
    record { moved = rw next (moved_by c.loop-left.invariant.moved 4 (omega (arith, c.loop-left.invariant.few)) c.four_further-here.ensures); few = omega (arith, c.loop-left.invariant.few) }

pub skip-requires-2-clause-k_in_bounds : goal.skip-requires-2-clause-k_in_bounds
skip-requires-2-clause-k_in_bounds c = moved-ahead c.loop-left.invariant.moved c.loop-left.left (omega (arith, c.loop-left.invariant.few)) c.requires.lists_in_bounds

pub returns : goal.returns
returns c =
    let rest : c.loop-left.left ≡ c.args.lists - (c.args.lists - c.loop-left.left) = omega (arith, c.loop-left.invariant.few) in
    moved-rest c.loop-left.invariant.moved (rw rest at c.skip-2.ensures)
