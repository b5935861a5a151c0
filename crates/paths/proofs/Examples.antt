-- The worked examples of SCOPE 8.1 to 8.4 hold: one computed test shows that all lists agree with the roads, that the routes lead, that the
-- join agrees with its two lists, and what each limit leaves. In this order: the lists of all pairs of junctions; the test; the examples.
use mathlib.Core.Path.{◌≡◌, refl}
use mathlib.Core.Logic.Dec
use mathlib.Core.List.Memᴰ
use mathlib.Core.List.{List, [], ◌∷◌}
use Prim.Native.Nat.{ℕ, ◌+◌, ◌-◌, ◌<◌}
use native.Mathlib.Omega.{arith}
use lib.ListN.{get_or}
use Rattle.paths.specs.Weights.{weights, energy, pair}
use Rattle.paths.specs.TradeOff.{IsTradeOff, IsJoin}
use Rattle.paths.specs.Answer.{Over}
use Rattle.paths.specs.Examples.{roads_a, A, roads_square, list_k, list_l, Starred, over_limit}
use Rattle.paths.proofs.Figures.{number_lawful}
use Rattle.paths.proofs.Decisions.{by_decision, map?}
use Rattle.paths.proofs.Existence.{listed_finite}
use Rattle.paths.proofs.Answers.{BestEntry, entry_is_best, none-within-list, alone-best, entry_is_best_sum, none-within-join}
use Rattle.paths.proofs.RouteStep.{stay-route}
use Rattle.paths.proofs.Computed.{
  best_entry?,
  NoneWithin,
  none_within?,
  JoinAgrees,
  join-agrees?,
  agrees-join,
  AllAgree,
  all_agree?,
  lists-right,
  Leads,
  leads?,
  leads-first,
}

-- ---- The lists of all pairs of junctions

-- A table has a row for each junction but the last, with its lists to those after it. Roads are two-way, so each serves both ways.
abbrev Table : Type 0
Table = List (List (List (weights energy).Figure))

abbrev lookup : Table → ℕ → ℕ → List (weights energy).Figure
lookup rows s t = get_or ((pair 0 0 ∷ []) ∷ get_or rows (s - (s - t)) []) ((s - t) + (t - s)) []

alone : (rows : Table) (s : ℕ) → lookup rows s s ≡ pair 0 0 ∷ []
alone rows s = let e : (s - s) + (s - s) ≡ 0 = omega arith in rw e

abbrev table_a : Table
table_a =
    ((pair 6 3 ∷ pair 2 5 ∷ []) ∷ (pair 5 2 ∷ pair 3 6 ∷ []) ∷ (pair 9 3 ∷ pair 7 7 ∷ pair 4 9 ∷ []) ∷ (pair 12 6 ∷ pair 10 10 ∷ pair 7 12 ∷ []) ∷ [])
    ∷ ((pair 1 1 ∷ []) ∷ (pair 5 2 ∷ pair 2 4 ∷ []) ∷ (pair 8 5 ∷ pair 5 7 ∷ []) ∷ [])
    ∷ ((pair 4 1 ∷ pair 3 5 ∷ []) ∷ (pair 7 4 ∷ pair 6 8 ∷ []) ∷ [])
    ∷ ((pair 3 3 ∷ []) ∷ [])
    ∷ []

abbrev table_square : Table
table_square =
    ((pair 1 1 ∷ []) ∷ (pair 1 1 ∷ []) ∷ (pair 2 2 ∷ []) ∷ [])
    ∷ ((pair 2 2 ∷ []) ∷ (pair 1 1 ∷ []) ∷ [])
    ∷ ((pair 1 1 ∷ []) ∷ [])
    ∷ []

-- ---- The test

abbrev list_a : ℕ → ℕ → List (weights energy).Figure
list_a = lookup table_a

abbrev list_square : ℕ → ℕ → List (weights energy).Figure
list_square = lookup table_square

abbrev join_kl : List (weights energy).Figure
join_kl = pair 18 12 ∷ pair 17 13 ∷ pair 16 18 ∷ []

-- what is computed: all lists of the two networks agree and the two routes lead; the join agrees; what each limit leaves of a list
record Computed : Type 0 where
  agree_a : AllAgree (listed_finite roads_a) list_a 5
  agree_square : AllAgree (listed_finite roads_square) list_square 4
  route_a : Leads (listed_finite roads_a) list_a 0 (2 ∷ 3 ∷ []) 3 (pair 9 3)
  route_square : Leads (listed_finite roads_square) list_square 0 (1 ∷ 3 ∷ []) 3 (pair 2 2)
  join_agrees : JoinAgrees list_k list_l join_kl
  under2 : NoneWithin (list_a 0 3) 2
  under3 : BestEntry energy (list_a 0 3) 3 (pair 9 3)
  under6 : BestEntry energy (list_a 0 3) 6 (pair 9 3)
  under8 : BestEntry energy (list_a 0 3) 8 (pair 7 7)
  under9 : BestEntry energy (list_a 0 3) 9 (pair 4 9)
  under13 : BestEntry energy join_kl 13 (pair 17 13)
  under11 : NoneWithin join_kl 11
  under17 : BestEntry energy join_kl 17 (pair 17 13)
  square : BestEntry energy (list_square 0 3) 2 (pair 2 2)

-- the one computed test
computed : Computed
unfolding all_agree? leads? join-agrees? best_entry? none_within? listed_finite Dec.and map?
computed =
    by_decision
    (map?
    (λ z.
    record {
      agree_a = z.0.0;
      agree_square = z.0.1;
      route_a = z.1.0.0;
      route_square = z.1.0.1;
      join_agrees = z.1.1.0;
      under2 = z.1.1.1.0.0;
      under3 = z.1.1.1.0.1.0;
      under6 = z.1.1.1.0.1.1.0;
      under8 = z.1.1.1.0.1.1.1.0;
      under9 = z.1.1.1.0.1.1.1.1;
      under13 = z.1.1.1.1.0;
      under11 = z.1.1.1.1.1.0;
      under17 = z.1.1.1.1.1.1.0;
      square = z.1.1.1.1.1.1.1;
    })
    (λ c. (
      (c.agree_a, c.agree_square),
      (
        (c.route_a, c.route_square),
        (
          c.join_agrees,
          (
            (c.under2, (c.under3, (c.under6, (c.under8, c.under9)))),
            (c.under13, (c.under11, (c.under17, c.square))),
          ),
        ),
      ),
    ))
    (Dec.and
    (Dec.and (all_agree? (listed_finite roads_a) list_a 5) (all_agree? (listed_finite roads_square) list_square 4))
    (Dec.and
    (Dec.and
    (leads? (listed_finite roads_a) list_a 0 (2 ∷ 3 ∷ []) 3 (pair 9 3))
    (leads? (listed_finite roads_square) list_square 0 (1 ∷ 3 ∷ []) 3 (pair 2 2)))
    (Dec.and (join-agrees? list_k list_l join_kl)
    (Dec.and
    (Dec.and (none_within? (list_a 0 3) 2)
    (Dec.and (best_entry? (list_a 0 3) 3 (pair 9 3))
    (Dec.and (best_entry? (list_a 0 3) 6 (pair 9 3))
    (Dec.and (best_entry? (list_a 0 3) 8 (pair 7 7)) (best_entry? (list_a 0 3) 9 (pair 4 9))))))
    (Dec.and (best_entry? join_kl 13 (pair 17 13))
    (Dec.and (none_within? join_kl 11)
    (Dec.and (best_entry? join_kl 17 (pair 17 13)) (best_entry? (list_square 0 3) 2 (pair 2 2))))))))))
    tt

-- ---- The examples

right_a : (s t : ℕ) → s < 5 → t < 5 → IsTradeOff A s t (list_a s t)
right_a s t = lists-right (alone table_a) computed.agree_a

right03 : IsTradeOff A 0 3 (list_a 0 3)
right03 = right_a 0 3 (omega arith) (omega arith)

over2 : Over A 0 3 2
over2 =
    record { walk = (right03.real (Memᴰ.head refl)).walk; none_within = none-within-list number_lawful right03 computed.under2 }

joined : IsJoin energy list_k list_l join_kl
joined = agrees-join computed.join_agrees

pub starred : Starred
starred =
    record {
      list01 = right_a 0 1 (omega arith) (omega arith);
      list02 = right_a 0 2 (omega arith) (omega arith);
      list12 = right_a 1 2 (omega arith) (omega arith);
      list31 = right_a 3 1 (omega arith) (omega arith);
      list03 = right03;
      list04 = right_a 0 4 (omega arith) (omega arith);
      under2 = over2;
      number2 = over_limit over2 refl;
      under3 = entry_is_best number_lawful right03 computed.under3;
      under6 = entry_is_best number_lawful right03 computed.under6;
      route93 =
          leads-first (alone table_a) computed.agree_a (omega arith) 0 (2 ∷ 3 ∷ []) (pair 9 3) computed.route_a;
      under8 = entry_is_best number_lawful right03 computed.under8;
      under9 = entry_is_best number_lawful right03 computed.under9;
      same = λ s. alone-best number_lawful s 0;
      same_route = λ s. stay-route A s;
      joined = joined;
      under13 = entry_is_best_sum number_lawful joined computed.under13;
      under11 = none-within-join number_lawful joined computed.under11;
      under17 = entry_is_best_sum number_lawful joined computed.under17;
      square =
          entry_is_best number_lawful (lists-right (alone table_square) computed.agree_square (omega arith) (omega arith)) computed.square;
      square_route =
          leads-first (alone table_square) computed.agree_square (omega arith) 0 (1 ∷ 3 ∷ []) (pair 2 2) computed.route_square;
    }
