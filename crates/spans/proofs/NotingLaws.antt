-- What is noted of a set of pairs. In this order: one energy; sets in parts.
use mathlib.Core.Path.{◌≡◌, refl, ap, ◌∙◌}
use mathlib.Core.Logic.{◌⊎◌, inl, inr, ⊎_elim}
use mathlib.Core.List.{List}
use Prim.Native.Nat.{ℕ, ◌+◌, ◌≤◌, ◌<◌}
use native.Mathlib.Decide.{ℕ_discrete}
use native.Mathlib.Omega.{arith}
use lib.ListN.{length, get_or, length-set}
use lib.Seq.{get_or-set_same, get_or-set_other}
use Rattle.paths.specs.Weights.{pair}
use Rattle.lists.specs.Entries.{Weight}
use Rattle.spans.specs.working.Noting.{span_seconds, LoweredAt, lowered, kept, Lowered}

-- ---- One energy

module _ {second energy : ℕ} {before after : List ℕ} (long : length before ≡ span_seconds) (inside : second < span_seconds) where
  at_long : LoweredAt second energy before after → length after ≡ span_seconds
  at_long (lowered h e) = rw e (simp length-set long)
  at_long (kept h e) = rw e long

  at_least : LoweredAt second energy before after → get_or after second 0 ≤ energy
  at_least (lowered h e) = omega (arith, ap (λ l. get_or l second 0) e ∙ get_or-set_same before second energy 0 (omega arith))
  at_least (kept h e) = rw e h

  at_other : (k : ℕ) → (k ≡ second → ⊥) → LoweredAt second energy before after → get_or after k 0 ≡ get_or before k 0
  at_other k apart (lowered h e) = rw e (get_or-set_other before second k energy 0 apart)
  at_other k apart (kept h e) = rw e

  at_same : LoweredAt second energy before after → (get_or after second 0 ≡ get_or before second 0) ⊎ ((get_or after second 0 ≡ energy) × (energy < get_or before second 0))
  at_same (lowered h e) = inr (rw e (get_or-set_same before second energy 0 (omega arith)), h)
  at_same (kept h e) = inl (rw e)

-- the energy of a pair of the set that takes so long is noted
pub lowered_one :
    {Has : Weight → Type 0} {first second energy : ℕ} {before after : List ℕ} → length before ≡ span_seconds → second < span_seconds →
    LoweredAt second energy before after → Has (pair (first + second) energy) →
    ((k e : ℕ) → Has (pair (first + k) e) → (k ≡ second) × (e ≡ energy)) → Lowered Has first before after
lowered_one {Has} {first} {second} {energy} {before} {after} long inside one has only =
    record {
      long = at_long long inside one;
      no_higher = λ k. no_higher k (ℕ_discrete k second);
      least = λ k e h m. let z = only k e m in rw (z.0, z.1) (at_least long inside one);
      origin = λ k. origin k (ℕ_discrete k second);
    }
  where
    no_higher : (k : ℕ) → Dec (k ≡ second) → get_or after k 0 ≤ get_or before k 0
    no_higher k (yes e) = rw e (⊎_elim (λ z. omega arith) (λ z. omega arith) (at_same long inside one))
    no_higher k (no apart) = omega (arith, at_other long inside k apart one)

    origin : (k : ℕ) → Dec (k ≡ second) → (get_or after k 0 ≡ get_or before k 0) ⊎ Has (pair (first + k) (get_or after k 0))
    origin k (yes e) = rw e (⊎_elim inl (λ z. inr (rw z.0 has)) (at_same long inside one))
    origin k (no apart) = inl (at_other long inside k apart one)

-- ---- Sets in parts

-- no pair of the set is in the span
pub lowered_none :
    {Has : Weight → Type 0} {first : ℕ} {leasts : List ℕ} → length leasts ≡ span_seconds → ((p : Weight) → Has p → ⊥) → Lowered Has first leasts leasts
lowered_none long none = record { long = long; no_higher = λ k. omega arith; least = λ k e h m. absurd (none (pair _ e) m); origin = λ k. inl refl }

-- two sets that have the same pairs in the span
pub lowered-same :
    {P R : Weight → Type 0} {first : ℕ} {before after : List ℕ} → ((p : Weight) → P p → R p) →
    ((k e : ℕ) → k < span_seconds → R (pair (first + k) e) → P (pair (first + k) e)) → Lowered P first before after → Lowered R first before after
lowered-same {first = first} {after = after} more back done =
    record {
      long = done.long;
      no_higher = done.no_higher;
      least = λ k e h m. done.least k e h (back k e h m);
      origin = λ k. ⊎_elim inl (λ z. inr (more (pair (first + k) (get_or after k 0)) z)) (done.origin k);
    }

-- R has the pairs of P and those of Q
pub record SetParts (R P Q : Weight → Type 0) : Type 0 where
  pub cases : (p : Weight) → R p → P p ⊎ Q p
  pub first_part : (p : Weight) → P p → R p
  pub second_part : (p : Weight) → Q p → R p

pub lowered_then :
    {R P Q : Weight → Type 0} {first : ℕ} {before middle after : List ℕ} → SetParts R P Q → Lowered P first before middle → Lowered Q first middle after →
    Lowered R first before after
lowered_then {R} {P} {first = first} {before} {middle} {after} parts one two =
    record {
      long = two.long;
      no_higher = λ k. omega (arith, one.no_higher k, two.no_higher k);
      least =
          λ k e h m.
          ⊎_elim (λ z. omega (arith, two.no_higher k, one.least k e h z)) (λ z. two.least k e h z) (parts.cases (pair (first + k) e) m);
      origin = λ k. ⊎_elim (earlier k) (λ z. inr (parts.second_part (pair (first + k) (get_or after k 0)) z)) (two.origin k);
    }
  where
    earlier : (k : ℕ) → get_or after k 0 ≡ get_or middle k 0 → (get_or after k 0 ≡ get_or before k 0) ⊎ R (pair (first + k) (get_or after k 0))
    earlier k e =
        ⊎_elim (λ f. inl (e ∙ f)) (λ z. inr (rw e (parts.first_part (pair (first + k) (get_or middle k 0)) z))) (one.origin k)
