-- `replies::reply::put_found`: the pair of an answer is unbeaten, so it has a first route, which the line holds.
use native.Mathlib.Omega.{arith}
use Prim.Native.Nat.{ℕ}
use lib.ListN.{length-replicate}
use Rattle.accepted.proofs.FoundPair.{answered-zero, found_skyline}
use Rattle.replies.proofs.ReplyCases.{route-sized, found_replied}
use Rattle.replies.proofs.reply.put_found.Goals as goal

pub route-count-requires : goal.route-count-requires
route-count-requires c = let found = answered-zero c.requires.answers in
    record { prepared = c.requires.prepared; x_bound = (found.start_on_map, found.finish_on_map); skyline = found_skyline found; junctions_len = length-replicate {A = ℕ} 1024 0 }

pub put_found_line-requires : goal.put_found_line-requires
put_found_line-requires c = let sized = route-sized c.route-count.ensures.route_found in
    record { le_count = (sized.some, omega (arith, sized.few, c.route-count.ensures.junctions_len_2), c.route-count.ensures.junctions_len_2); at_in_bounds = c.requires.at_in_bounds }

pub returns-clause-put : goal.returns-clause-put
returns-clause-put c = found_replied c.requires.answers c.route-count.ensures.route_found c.put_found_line.ensures.put
