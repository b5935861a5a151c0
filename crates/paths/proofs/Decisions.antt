-- Decisions that compute at closed data: name each on an `unfolding` line, and `by_decision d tt` is what d decides.
-- (`Dec.and` and `Dec.not` are mathlib's; `found?` of Covering decides whether a list has such an entry.)
-- In this order: connectives; over a list; below a number.
use mathlib.Core.Path.{◌≡◌, refl}
use mathlib.Core.Logic.Dec
use mathlib.Core.Logic.{◌⊎◌, inl, inr, ⊎_elim}
use mathlib.Core.List.Memᴰ
use mathlib.Core.List.{List, [], ◌∷◌, Memᴰ}
use Prim.Native.Nat.{ℕ, zero, suc, ◌<◌}
use native.Mathlib.Decide.{ℕ_discrete}
use native.Mathlib.Omega.{arith}

abbrev pub IsYes : {A : Type 0} → Dec A → Type 0
IsYes (yes a) = Unit
IsYes (no n) = ⊥

-- what a decision that computes to `yes` decides
pub by_decision : {A : Type 0} (d : Dec A) → IsYes d → A
by_decision (yes a) t = a
by_decision (no n) t = absurd t

unfoldable pub map? : {A B : Type 0} → (A → B) → (B → A) → Dec A → Dec B
map? f g (yes a) = yes (f a)
map? f g (no n) = no (λ b. n (g b))

unfoldable pub if? : {A B : Type 0} → Dec A → Dec B → Dec (A → B)
if? (yes a) (yes b) = yes (λ _. b)
if? (yes a) (no n) = no (λ f. n (f a))
if? (no n) d = yes (λ a. absurd (n a))

unfoldable pub or? : {A B : Type 0} → Dec A → Dec B → Dec (A ⊎ B)
or? (yes a) d = yes (inl a)
or? (no n) (yes b) = yes (inr b)
or? (no n) (no m) = no (⊎_elim n m)

module _ {A : Type 0} {P : A → Type 0} (decide : (a : A) → Dec (P a)) where
  unfoldable pub all? : (l : List A) → Dec ((a : A) → Memᴰ a l → P a)
  unfolding map? Dec.and
  all? [] = yes (λ a m. absurd (Memᴰ.not-nil m))
  all? (x ∷ l) =
      map? (λ z a m. ⊎_elim (λ (e : a ≡ x). rw e z.0) (λ m'. z.1 a m') (Memᴰ.cases_cons m))
      (λ f. (f x (Memᴰ.head refl), λ a m. f a (Memᴰ.tail m)))
      (Dec.and (decide x) (all? l))

module _ {P : ℕ → Type 0} (decide : (k : ℕ) → Dec (P k)) where
  unfoldable pub below? : (n : ℕ) → Dec ((k : ℕ) → k < n → P k)
  unfolding map? Dec.and
  below? zero = yes (λ k h. absurd (omega arith))
  below? (suc n) =
      map? (λ z k h. last_or z k h (ℕ_discrete k n)) (λ f. (f n (omega arith), λ k h. f k (omega arith)))
      (Dec.and (decide n) (below? n))
    where
      last_or : P n × ((k : ℕ) → k < n → P k) → (k : ℕ) → k < suc n → Dec (k ≡ n) → P k
      last_or z k h (yes e) = rw e z.0
      last_or z k h (no e) = z.1 k (omega arith)
