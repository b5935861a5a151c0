-- A loop over k that looks for the first fault among n: its invariant, and one law for each way through it.
-- In this order: the invariant; start; a fault; one more without a fault; end.
use mathlib.Core.Path.{◌≡◌, sym, ◌∙◌}
use Prim.Native.Nat.{ℕ, ◌+◌, ◌-◌, ◌≤◌, ◌<◌}
use native.Mathlib.Omega.{arith}
use Rattle.refusals.specs.Order.{first_fault}
use Rattle.refusals.proofs.Order.{faults_from, fault-next, fault-here, fault_end}

-- The first fault of all is the first of those from k on
pub record FaultsLeft (fault : ℕ → ℕ) (n k : ℕ) : Type 0 where
  pub within : k ≤ n
  pub same : first_fault fault 0 n ≡ faults_from fault n k

-- nothing was tested yet
pub faults_start : (fault : ℕ → ℕ) (n : ℕ) → FaultsLeft fault n 0
faults_start fault n = record { within = omega arith; same = rw all }
  where
    all : n - 0 ≡ n
    all = omega arith

-- the first fault is here
pub faults_here : {fault : ℕ → ℕ} {n k r : ℕ} → FaultsLeft fault n k → k < n → r ≡ fault k → (r ≡ 0 → ⊥) → r ≡ first_fault fault 0 n
faults_here {fault} left h e fails = e ∙ sym (left.same ∙ fault-here fault h (λ z. fails (e ∙ z)))

-- no fault here
pub faults_more : {fault : ℕ → ℕ} {n k r : ℕ} → FaultsLeft fault n k → k < n → r ≡ fault k → r ≡ 0 → FaultsLeft fault n (k + 1)
faults_more {fault} left h e passes = record { within = omega arith; same = left.same ∙ fault-next fault h (sym e ∙ passes) }

-- no fault at all
pub faults_end : {fault : ℕ → ℕ} {n k : ℕ} → FaultsLeft fault n k → n ≤ k → 0 ≡ first_fault fault 0 n
faults_end {fault} left h = sym (left.same ∙ fault_end fault h)
