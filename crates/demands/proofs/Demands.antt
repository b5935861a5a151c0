-- The three demands hold: each field of a demand is a law of `Unchanged`, `DemandLaws` or `LegLaws`.
use mathlib.Core.Path.{refl}
use mathlib.Core.List.{List}
use Prim.Native.Nat.{ℕ}
use Rattle.demands.specs.Demands.{Demand1, Demand2, Demand3}
use Rattle.demands.proofs.Unchanged.{batch-unchanged, triple_zeros, route-unchanged, list-unchanged, join-unchanged, limited_join_zeros, show-empty}
use Rattle.demands.proofs.DemandLaws as law
use Rattle.demands.proofs.LegLaws.{answered_exactly, refused_exactly}

pub demand1 : Demand1
demand1 =
    record {
      batch = batch-unchanged;
      triple = triple_zeros;
      route = route-unchanged;
      list = list-unchanged;
      join = join-unchanged;
      limited_join = limited_join_zeros;
      show = show-empty;
    }

pub demand2 : (net labels : List ℕ) → Demand2 net labels
demand2 net labels =
    record {
      accepted_exactly = λ network form number check. law.accepted-complete network form check;
      some_answer = λ check. law.some_answer check;
      one_answer = λ check a b. law.one_answer a b;
      found_exactly = λ check. law.gives-best check;
      first_route = λ check done. law.route-first (law.accepted-route check done) refl;
      route_answers = λ check done roomy. law.answer_given check (law.route_answers (law.accepted-route check done) roomy);
      batch_triples = λ check done. law.batch_triples done refl;
      whole_list = λ check done. law.list-whole (law.accepted-list check done) refl;
      over_exactly = λ check gives. law.answer_over (law.given_answer gives);
      apart_exactly = λ check gives. law.answer_apart (law.given_answer gives);
      list_apart_exactly = λ check done. law.list-apart (law.accepted-list check done);
      route_over_exactly = λ check done. law.route-over (law.accepted-route check done);
      route_apart_exactly = λ check done. law.route-apart (law.accepted-route check done);
      off_map_exactly = λ check gives. law.answer_off_map (law.given_answer gives);
      route_off_map_exactly = λ check done. law.route_off_map (law.accepted-route check done);
      list_off_map_exactly = λ check done. law.list_off_map (law.accepted-list check done);
      batch_number_exactly = λ check done. law.batch-number check done;
      route_room_exactly = λ check done first best. law.route-room first (law.given_answer best) (law.accepted-route check done);
      route_no_room = λ check done. law.route_no_room check (law.accepted-route check done);
      list_room_exactly = λ check done right on on' some. law.list-room right on on' some (law.accepted-list check done);
      only_reasons = λ check gives. law.answer_reasons (law.given_answer gives);
      route_only_reasons = λ check done. law.route_reasons (law.accepted-route check done);
      list_only_reasons = λ check done. law.list_reasons (law.accepted-list check done);
    }

pub demand3 : (net labels : List ℕ) → Demand3 net labels
demand3 net labels =
    record {
      answered = λ check H s t limit cut time energy. answered_exactly check cut;
      refused = λ check H s t limit cut number time energy gives. refused_exactly check cut gives;
    }
