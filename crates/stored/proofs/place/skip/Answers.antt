-- After so many moves the place is as many lists further than it was.
use borrow.Author.Rules.{rules}
use Rattle.stored.proofs.Places.{moved_none, moved_inside, moved_more, moved_all}
use Rattle.stored.proofs.place.skip.Goals as goal

pub loop-init : goal.loop-init
loop-init c = moved_none _ _ _

pub next-place-requires : goal.next-place-requires
next-place-requires c = search (moved_inside, rules)

pub loop-preserved : goal.loop-preserved
loop-preserved c = search (moved_more, rules)

pub returns : goal.returns
returns c = search (moved_all, rules)
