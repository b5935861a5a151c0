-- Laws of the order of tests, in the shape in which loops use them.
-- In this order: one test; every number below n; the first fault.
use mathlib.Core.Path.{◌≡◌, refl, sym, ap, ◌∙◌}
use mathlib.Core.Bool.{Bool, true, false, ◌&&◌}
use Prim.Native.Nat.{ℕ, zero, suc, ◌+◌, ◌-◌, ◌≤◌, ◌<◌}
use native.Mathlib.Decide.{ℕ_discrete}
use native.Mathlib.Omega.{arith}
use native.Mathlib.Numerals.{add-one}
use Rattle.refusals.specs.Order.{unless, decided, every, first_fault}

-- A chain of tests that gives 0 has passed each of them
pub unless-passed : {test : Bool} {number next : ℕ} → (number ≡ 0 → ⊥) → unless test number next ≡ 0 → (test ≡ true) × (next ≡ 0)
unless-passed {test = true} h e = (refl, e)
unless-passed {test = false} h e = absurd (h e)

pub and_both : (a b : Bool) → (a && b) ≡ true → (a ≡ true) × (b ≡ true)
and_both true true e = (refl, refl)
and_both true false e = let z : ◌≡◌ {A = ℕ} 0 1 = cc in absurd (omega arith)
and_both false true e = let z : ◌≡◌ {A = ℕ} 0 1 = cc in absurd (omega arith)
and_both false false e = let z : ◌≡◌ {A = ℕ} 0 1 = cc in absurd (omega arith)

pub and_true : {a b : Bool} → a ≡ true → b ≡ true → (a && b) ≡ true
and_true p q = rw (p, q)

pub and_false_left : {a : Bool} (b : Bool) → a ≡ false → (a && b) ≡ false
and_false_left true p = rw p
and_false_left false p = rw p

pub and_false_right : (a : Bool) {b : Bool} → b ≡ false → (a && b) ≡ false
and_false_right true q = rw q
and_false_right false q = refl

-- ---- Every number below n

module _ (test : ℕ → Bool) where
  pub every-none : every test 0 ≡ true
  unfolding every
  every-none = refl

  pub every_more : (n : ℕ) → every test n ≡ true → test n ≡ true → every test (n + 1) ≡ true
  unfolding every
  every_more n h k = rw (add-one n) (and_true h k)

  pub every_holds : (n : ℕ) {i : ℕ} → every test n ≡ true → i < n → test i ≡ true
  unfolding every
  every_holds zero h k = absurd (omega arith)
  every_holds (suc n) {i} h k = pick (every_holds n (and_both (every test n) (test n) h).0) (ℕ_discrete i n)
    where
      pick : (i < n → test i ≡ true) → Dec (i ≡ n) → test i ≡ true
      pick f (yes e) = ap test e ∙ (and_both (every test n) (test n) h).1
      pick f (no apart) = f (omega arith)

  -- one failure fails all
  pub every-fails : (n : ℕ) {i : ℕ} → i < n → test i ≡ false → every test n ≡ false
  unfolding every
  every-fails zero k h = absurd (omega arith)
  every-fails (suc n) {i} k h = pick (λ below. every-fails n below h) (ℕ_discrete i n)
    where
      pick : (i < n → every test n ≡ false) → Dec (i ≡ n) → (every test n && test n) ≡ false
      pick f (yes e) = and_false_right (every test n) (ap test (sym e) ∙ h)
      pick f (no apart) = and_false_left (test n) (f (omega arith))

  pub every_all : (n : ℕ) → ((i : ℕ) → i < n → test i ≡ true) → every test n ≡ true
  unfolding every
  every_all zero f = refl
  every_all (suc n) f = and_true (every_all n (λ i k. f i (omega arith))) (f n (omega arith))

-- ---- The first fault

pub decided-zero : {number next : ℕ} → number ≡ 0 → decided number next ≡ next
decided-zero e = rw e

pub decided-more : {number : ℕ} (next : ℕ) → (number ≡ 0 → ⊥) → decided number next ≡ number
decided-more {number = zero} next h = absurd (h refl)
decided-more {number = suc number} next h = refl

-- two numbers in turn that give 0 are both 0
pub decided-none : (first then : ℕ) → decided first then ≡ 0 → (first ≡ 0) × (then ≡ 0)
decided-none zero then e = (refl, e)
decided-none (suc first) then e = absurd (omega arith)

module _ (fault : ℕ → ℕ) where
  -- what is left after k of n tests, as a loop meets it
  abbrev pub faults_from : ℕ → ℕ → ℕ
  faults_from n k = first_fault fault k (n - k)

  pub fault-next : {n k : ℕ} → k < n → fault k ≡ 0 → faults_from n k ≡ faults_from n (k + 1)
  unfolding first_fault
  fault-next {n} {k} h e = rw (count, add-one k) (decided-zero e)
    where
      count : n - k ≡ suc (n - (k + 1))
      count = omega arith

  pub fault-here : {n k : ℕ} → k < n → (fault k ≡ 0 → ⊥) → faults_from n k ≡ fault k
  unfolding first_fault
  fault-here {n} {k} h e = rw count (decided-more _ e)
    where
      count : n - k ≡ suc (n - (k + 1))
      count = omega arith

  pub fault_end : {n k : ℕ} → n ≤ k → faults_from n k ≡ 0
  unfolding first_fault
  fault_end {n} {k} h = rw count
    where
      count : n - k ≡ 0
      count = omega arith

  -- no fault at all: every number is 0
  pub no_fault : (left : ℕ) {k i : ℕ} → first_fault fault k left ≡ 0 → k ≤ i → i < k + left → fault i ≡ 0
  unfolding first_fault
  no_fault zero e h l = absurd (omega arith)
  no_fault (suc left) {k} {i} e h l = pick (fault k) refl (ℕ_discrete i k) (λ later. no_fault left later)
    where
      pick : (f : ℕ) → fault k ≡ f → Dec (i ≡ k) → (first_fault fault (suc k) left ≡ 0 → suc k ≤ i → i < suc k + left → fault i ≡ 0) → fault i ≡ 0
      pick zero z (yes d) next = ap fault d ∙ z
      pick zero z (no apart) next = next (sym (decided-zero z) ∙ e) (omega arith) (omega arith)
      pick (suc f) z d next = absurd (never (decided-more _ (λ zero_is. let y = sym z ∙ zero_is in omega arith)))
        where
          never : decided (fault k) (first_fault fault (suc k) left) ≡ fault k → ⊥
          never w = let y = sym z ∙ (sym w ∙ e) in omega arith

  pub all_pass : (left : ℕ) {k : ℕ} → ((i : ℕ) → k ≤ i → i < k + left → fault i ≡ 0) → first_fault fault k left ≡ 0
  unfolding first_fault
  all_pass zero f = refl
  all_pass (suc left) {k} f = decided-zero (f k (omega arith) (omega arith)) ∙ all_pass left (λ i h l. f i (omega arith) (omega arith))
