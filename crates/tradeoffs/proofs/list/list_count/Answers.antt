-- No list, one list, two lists for each common ancestor: in each case the list counted is the one that is told.
use Rattle.query.proofs.ListPlaces.{count-stands}
use Rattle.tradeoffs.proofs.ListSteps.{some_more, counted-more, none_told, told_one, one_told, told_two, two_told, joined_list, none-counted, stored-counted}
use Rattle.tradeoffs.proofs.list.list_count.Goals as goal

pub count-requires : goal.count-requires
count-requires c = let one = some_more (told_one _ c.in-List.is) c.requires in
    count-stands one.right.fits

pub count_reasoned-requires-clause-is_formed : goal.count_reasoned-requires-clause-is_formed
count_reasoned-requires-clause-is_formed c = (some_more (told_two _ c.in-Lists.is) c.requires).right.fits

pub count_reasoned-requires-clause-some_list : goal.count_reasoned-requires-clause-some_list
count_reasoned-requires-clause-some_list c = some_more (λ l told. (told_two _ c.in-Lists.is l told).is) c.requires

pub returns-in-Nothing : goal.returns-in-Nothing
returns-in-Nothing c = counted-more (none_told _ c.in-Nothing.is) none-counted

pub returns-in-List : goal.returns-in-List
returns-in-List c = counted-more (one_told _ c.in-List.is)
    (stored-counted (some_more (told_one _ c.in-List.is) c.requires) c.count.ensures.is)

pub returns-in-Lists : goal.returns-in-Lists
returns-in-Lists c =
    let fits = (some_more (told_two _ c.in-Lists.is) c.requires).right.fits in
    counted-more (λ l is. two_told _ c.in-Lists.is l (joined_list fits l is)) c.count_reasoned.ensures.value
