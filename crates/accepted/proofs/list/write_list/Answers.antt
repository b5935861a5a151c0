-- A number that is no junction is off the map; the others are junctions of both files.
use borrow.Author.Rules.{rules}
use native.Mathlib.Omega.{arith}
use Rattle.accepted.proofs.ListAnswers.{start_off_map, finish_off_map}
use Rattle.accepted.proofs.list.write_list.Goals as goal

pub returns-then-s-junctions : goal.returns-then-s-junctions
returns-then-s-junctions c = record { list_answered = search (start_off_map); result_value = search rules }

pub returns-then-t-junctions : goal.returns-then-t-junctions
returns-then-t-junctions c = record { list_answered = search (finish_off_map); result_value = search rules }

pub list_on_map-requires : goal.list_on_map-requires
list_on_map-requires c = record { prepared = c.requires; s_bound = (omega (arith, c.if-s-junctions.false, c.junctions_of-junctions.ensures.is, c.requires.beside.one_map), omega (arith, c.if-t-junctions.false, c.junctions_of-junctions.ensures.is, c.requires.beside.one_map)) }
