-- The first fault of some tests and of more behind them. In this order: a split; a prefix; the same tests counted from another number on.
use mathlib.Core.Path.{◌≡◌, refl, sym, ap, ◌∙◌}
use Prim.Native.Nat.{ℕ, zero, suc, ◌+◌, ◌-◌, ◌≤◌}
use native.Mathlib.Omega.{arith}
use native.Mathlib.Nat.{add-zero, zero-add, add-suc, suc-add}
use Rattle.refusals.specs.Order.{decided, first_fault}
use Rattle.refusals.proofs.Order.{decided-more, faults_from}

module _ (fault : ℕ → ℕ) where
  -- the first m tests decide, or those behind them
  pub faults_joined : (m k l : ℕ) → first_fault fault k (m + l) ≡ decided (first_fault fault k m) (first_fault fault (k + m) l)
  unfolding first_fault
  faults_joined zero k l = rw (zero-add l, add-zero k)
  faults_joined (suc m) k l = rw (suc-add m l, add-suc k m, ← suc-add k m) (pick (fault k) (faults_joined m (suc k) l))
    where
      pick :
          (number : ℕ) →
          first_fault fault (suc k) (m + l) ≡ decided (first_fault fault (suc k) m) (first_fault fault (suc k + m) l) →
          decided number (first_fault fault (suc k) (m + l)) ≡
          decided (decided number (first_fault fault (suc k) m)) (first_fault fault (suc k + m) l)
      pick zero later = later
      pick (suc number) later = refl

  -- of n tests the first m have a fault: it decides
  pub fault-among : {m n number : ℕ} → m ≤ n → number ≡ first_fault fault 0 m → (number ≡ 0 → ⊥) → number ≡ first_fault fault 0 n
  fault-among {m} {n} {number} h e apart = sym (ap (first_fault fault 0) count ∙ faults_joined m 0 (n - m) ∙ decided-more _ (λ z. apart (e ∙ z)) ∙ sym e)
    where
      count : n ≡ m + (n - m)
      count = omega arith

  -- the first m have none: those left decide
  pub fault-behind : {m n : ℕ} → m ≤ n → first_fault fault 0 m ≡ 0 → first_fault fault 0 n ≡ faults_from fault n m
  fault-behind {m} {n} h e = ap (first_fault fault 0) count ∙ faults_joined m 0 (n - m) ∙ rw (e, zero-add m)
    where
      count : n ≡ m + (n - m)
      count = omega arith

-- the same tests counted from g on
pub faults_moved :
    (some all : ℕ → ℕ) (g : ℕ) → ((i : ℕ) → some i ≡ all (g + i)) → (left k : ℕ) → first_fault some k left ≡ first_fault all (g + k) left
unfolding first_fault
faults_moved some all g same zero k = refl
faults_moved some all g same (suc left) k = rw (same k, ← add-suc g k, faults_moved some all g same left (suc k))
