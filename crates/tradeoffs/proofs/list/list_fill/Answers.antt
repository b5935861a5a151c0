-- No list, one list, two lists for each common ancestor: in each case the list written is the one that is told.
use native.Mathlib.Omega.{arith}
use Rattle.tradeoffs.proofs.ListSteps.{counted-more, written-more, told_none, none_told, told_one, one_told, told_two, two_told, joined_list, none_written, stored-room, stored-written}
use Rattle.tradeoffs.proofs.list.list_fill.Goals as goal

pub load-requires : goal.load-requires
load-requires c = let one = counted-more (told_one _ c.in-List.is) c.requires.counted in
    record { at_in_bounds = one.right.fits.inside; at_in_bounds_2 = omega (arith, stored-room one, c.requires.count_in_bounds.0); at_in_bounds_3 = omega (arith, stored-room one, c.requires.count_in_bounds.1) }

pub fill_reasoned-requires-clause-is_formed : goal.fill_reasoned-requires-clause-is_formed
fill_reasoned-requires-clause-is_formed c = (counted-more (told_two _ c.in-Lists.is) c.requires.counted).right.fits

pub fill_reasoned-requires-clause-counted : goal.fill_reasoned-requires-clause-counted
fill_reasoned-requires-clause-counted c = counted-more (λ l told. (told_two _ c.in-Lists.is l told).is) c.requires.counted

pub returns-in-Nothing : goal.returns-in-Nothing
returns-in-Nothing c = written-more (none_told _ c.in-Nothing.is) (none_written (counted-more (told_none _ c.in-Nothing.is) c.requires.counted))

pub returns-in-List : goal.returns-in-List
returns-in-List c = written-more (one_told _ c.in-List.is) (stored-written (counted-more (told_one _ c.in-List.is) c.requires.counted) c.load.ensures)

pub returns-in-Lists : goal.returns-in-Lists
returns-in-Lists c =
    let fits = (counted-more (told_two _ c.in-Lists.is) c.requires.counted).right.fits in
    written-more (λ l is. two_told _ c.in-Lists.is l (joined_list fits l is)) c.fill_reasoned.ensures
