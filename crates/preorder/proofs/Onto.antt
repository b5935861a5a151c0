-- n numbers below n, no two the same, are all the numbers below n.
use mathlib.Core.Path.{◌≡◌, refl, sym, ap}
use mathlib.Core.Logic.{⊎_elim}
use mathlib.Core.List.Memᴰ
use mathlib.Core.List.{List, [], ◌∷◌, Memᴰ}
use Prim.Native.Nat.{ℕ, zero, suc, ◌≤◌, ◌<◌}
use native.Mathlib.Decide.{ℕ_discrete}
use native.Mathlib.Omega.{arith}
use lib.ListN.{length}
use Rattle.paths.specs.Route.{NoneTwice, none, next}
use Rattle.paths.proofs.Route.{visits_once_short}

-- A number below k at which f is i
pub record Hit (f : ℕ → ℕ) (k i : ℕ) : Type 0 where
  pub at : ℕ
  pub below : at < k
  pub is : f at ≡ i

module _ (f : ℕ → ℕ) where
  -- The numbers f 0 to f (k - 1)
  values : ℕ → List ℕ
  values zero = []
  values (suc k) = f k ∷ values k

  values_length : (k : ℕ) → length (values k) ≡ k
  unfolding values
  values_length zero = refl
  values_length (suc k) = ap suc (values_length k)

  -- what is listed is hit
  one_more : {k i : ℕ} → Hit f k i → Hit f (suc k) i
  one_more z = record { at = z.at; below = omega (arith, z.below); is = z.is }

  listed_hit : (k : ℕ) {i : ℕ} → Memᴰ i (values k) → Hit f k i
  unfolding values
  listed_hit zero m = absurd (Memᴰ.not-nil m)
  listed_hit (suc k) m =
      ⊎_elim (λ e. record { at = k; below = omega arith; is = sym e }) (λ m'. one_more (listed_hit k m')) (Memᴰ.cases_cons m)

  -- whether a number is hit is decided
  hit? : (k i : ℕ) → Dec (Hit f k i)
  hit? zero i = no (λ z. omega (arith, z.below))
  hit? (suc k) i = pick (hit? k i) (ℕ_discrete (f k) i)
    where
      pick : Dec (Hit f k i) → Dec (f k ≡ i) → Dec (Hit f (suc k) i)
      pick (yes z) d = yes (one_more z)
      pick (no n) (yes e) = yes (record { at = k; below = omega arith; is = e })
      pick (no n) (no apart) = no (λ z. missed z (ℕ_discrete z.at k))
        where
          missed : (z : Hit f (suc k) i) → Dec (z.at ≡ k) → ⊥
          missed z (yes e) = apart (rw e at z.is)
          missed z (no e) = n (record { at = z.at; below = omega (arith, z.below); is = z.is })

  module _ (n : ℕ) (below : (v : ℕ) → v < n → f v < n) (once : (u v : ℕ) → u < n → v < n → f u ≡ f v → u ≡ v) where
    -- none of them comes twice
    values-once : (k : ℕ) → k ≤ n → NoneTwice (values k)
    unfolding values
    values-once zero h = none
    values-once (suc k) h =
        next
        {j = f k}
        (λ m. let z = listed_hit k m in omega (arith, z.below, once z.at k (omega (arith, z.below)) (omega arith) z.is))
        (values-once k (omega arith))

    -- a number that is not hit would be one more
    pub onto : (i : ℕ) → i < n → Hit f n i
    onto i h = pick (hit? n i)
      where
        member : (j : ℕ) → Memᴰ j (i ∷ values n) → j < n
        member j m =
            ⊎_elim
            (λ e. omega arith)
            (λ m'. let z = listed_hit n m' in omega (arith, z.is, below z.at z.below))
            (Memᴰ.cases_cons m)

        pick : Dec (Hit f n i) → Hit f n i
        pick (yes z) = z
        pick (no missed) =
            let short : length (i ∷ values n) ≤ n =
            visits_once_short n (next (λ m. missed (listed_hit n m)) (values-once n (omega arith))) member in
            absurd (omega (arith, values_length n))
