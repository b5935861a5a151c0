-- Each turn notes the list for the next ancestor, and the list behind it is for the one above.
use native.Mathlib.Omega.{arith}
use Rattle.std.proofs.Common.{rules}
use Rattle.exact.proofs.Noting.{noting_none, reached_inside, here_inside, next_on_map, noting_more, noting_all}
use Rattle.exact.proofs.sweep.note_above.Goals as goal

pub loop-init : goal.loop-init
loop-init c = search (noting_none, rules)

pub parent_at-w-requires : goal.parent_at-w-requires
parent_at-w-requires c = search (reached_inside, rules)

pub overflow_cast-places : goal.overflow_cast-places
overflow_cast-places c = omega (arith, here_inside c.requires.formed c.requires.u_bound c.loop.invariant c.loop-test.true, c.requires.formed.few_bytes)

pub bounds-places-w : goal.bounds-places-w
bounds-places-w c = omega (
  arith,
  next_on_map c.requires.formed c.requires.u_bound c.loop.invariant c.loop-test.true c.parent_at-w.ensures.is,
  c.requires.formed.parents.few_junctions,
)

pub next-place-requires : goal.next-place-requires
next-place-requires c = search (here_inside, rules)

pub loop-preserved : goal.loop-preserved
loop-preserved c = search (noting_more, rules)

pub returns : goal.returns
returns c = search (noting_all, rules)
