-- For callers that compare answers: the order of pairs is the order of answers: less time first, and at equal times less energy. Where `<` holds one comes before, and else it comes no sooner.
use Rattle.std.proofs.Common.{◌≡◌, sym, ◌∙◌, ℕ, ◌<◌, ◌≤◌, true, false, arith, rules}
use Rattle.std.proofs.Math.Decide.{dec_le}
use Rattle.std.proofs.lemmas.Bool.Decides.{nat_tests}
use Rattle.std.specs.Ordering.{partial_lt, is_lt, nat_cmp, ordering_then}
use Rattle.paths.specs.Weights.{energy, pair, Sooner, by_time, by_figures, NotLater, sooner, same}
use Rattle.paths.specs.declared.pair.Pair.{Pair}
use Rattle.lists.proofs.Walk.{pair_is}
use Rattle.paths.specs.contracts.pair.PairPartialOrd.TheImpl.{partial_cmp-value}

-- `<` on pairs, number by number
by_numbers : (p q : Pair) → partial_lt partial_cmp-value.it p q ≡ is_lt (ordering_then (nat_cmp p.time.0 q.time.0) (nat_cmp p.energy.0 q.energy.0))
by_numbers p q = search rules

module _ (t t' e e' : ℕ) where
  less_energy : is_lt (ordering_then (nat_cmp t t') (nat_cmp e e')) ≡ true → t' ≤ t → (t ≡ t') × (e < e')
  less_energy h late = grind (arith, nat_tests)

  no_less_energy : is_lt (ordering_then (nat_cmp t t') (nat_cmp e e')) ≡ false → t ≤ t' → (t ≡ t') × (e' ≤ e)
  no_less_energy h early = grind (arith, nat_tests)

  sooner_numbers : is_lt (ordering_then (nat_cmp t t') (nat_cmp e e')) ≡ true → Dec (t' ≤ t) → Sooner energy (pair t e) (pair t' e')
  sooner_numbers h (yes late) = let z = less_energy h late in by_figures z.0 z.1
  sooner_numbers h (no early) = by_time (omega arith)

  not_later_numbers : is_lt (ordering_then (nat_cmp t t') (nat_cmp e e')) ≡ false → Dec (t ≤ t') → Dec (e ≤ e') → NotLater energy (pair t' e') (pair t e)
  not_later_numbers h (no late) k = sooner (by_time (omega arith))
  not_later_numbers h (yes early) (yes k) = let z = no_less_energy h early in same (pair_is (sym z.0) (let f : e' ≡ e = omega (arith, z.1) in f))
  not_later_numbers h (yes early) (no k) = let z = no_less_energy h early in sooner (by_figures (sym z.0) (omega arith))

module _ {p q : Pair} where
  pub pair_sooner : partial_lt partial_cmp-value.it p q ≡ true → Sooner energy (pair p.time.0 p.energy.0) (pair q.time.0 q.energy.0)
  pair_sooner h = sooner_numbers p.time.0 q.time.0 p.energy.0 q.energy.0 (sym (by_numbers p q) ∙ h) (dec_le _ _)

  pub pair_not_later : partial_lt partial_cmp-value.it p q ≡ false → NotLater energy (pair q.time.0 q.energy.0) (pair p.time.0 p.energy.0)
  pair_not_later h = not_later_numbers p.time.0 q.time.0 p.energy.0 q.energy.0 (sym (by_numbers p q) ∙ h) (dec_le _ _) (dec_le _ _)
