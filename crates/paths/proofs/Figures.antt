-- The laws of figures hold of one number, and of two figures side by side if they hold of each.
-- In this order: one number; two figures.
use mathlib.Core.Path.{◌≡◌, sym, ap, ◌∙◌}
use mathlib.Core.Logic.Dec
use mathlib.Core.Logic.{◌⊎◌, inl, inr, ⊎_elim, by_cases}
use Prim.Native.Nat.{ℕ, ◌+◌, ◌-◌, ◌≤◌, ◌<◌}
use native.Mathlib.Nat.{add_assoc, add_comm, add-zero, le_of_eq, le_of_lt}
use native.Mathlib.Decide.{dec_le}
use native.Mathlib.Omega.{arith}
use Rattle.paths.specs.Figures.{Figures, number, Both, FirstThenSecond, by_first, by_second, ◌and◌, Lawful}

unfoldable pub compare_numbers : (a b : ℕ) → (a < b) ⊎ ((a ≡ b) ⊎ (b < a))
unfolding dec_le
compare_numbers a b = pick (dec_le a b) (dec_le b a)
  where
    pick : Dec (a ≤ b) → Dec (b ≤ a) → (a < b) ⊎ ((a ≡ b) ⊎ (b < a))
    pick (yes h) (yes k) = inr (inl (omega arith))
    pick (yes h) (no k) = inl (omega arith)
    pick (no h) k = inr (inr (omega arith))

-- (unfoldable, as all that decides is: a decision on closed data then computes)
unfoldable pub number_lawful : Lawful number
unfolding compare_numbers dec_le
number_lawful =
    record {
      ⊕_assoc = add_assoc;
      ⊕_comm = add_comm;
      ⊕_unit = add-zero;
      ⊑_refl = λ a. omega arith;
      ⊑_trans = λ h k. omega arith;
      ⊑_antisym = λ h k. omega arith;
      ⊑_decide = dec_le;
      𝟘_least = λ a. omega arith;
      ⊕_mono = λ c h. omega arith;
      ⊕_cancel = λ c h. omega arith;
      left = λ {a} {b} h. b - a;
      left_adds = λ h. omega arith;
      ≺_irrefl = λ h e. omega arith;
      ≺_trans = λ h k. omega arith;
      ≺_compare = compare_numbers;
      ≺_mono = λ c h. omega arith;
      ⊑_earlier = λ h n. omega arith;
      size = λ a. a;
      size_falls = λ h n. omega arith;
    }

size_below : {𝓒 : Figures} (K : Lawful 𝓒) {a b : 𝓒.Figure} → 𝓒.◌⊑◌ a b → K.size a ≤ K.size b
size_below K {a} {b} h =
    by_cases (K.⊑_decide b a)
    (λ k. le_of_eq (ap K.size (K.⊑_antisym h k)))
    (λ k. le_of_lt (K.size_falls h (λ e. k (rw e (K.⊑_refl b)))))

module _ {𝓐 𝓑 : Figures} (A : Lawful 𝓐) (B : Lawful 𝓑) where
  abbrev AB : Type 0
  AB = Both 𝓐.Figure 𝓑.Figure

  pub both_path : {p q : AB} → p.first ≡ q.first → p.second ≡ q.second → p ≡ q
  both_path e f = λ i. record { first = e i; second = f i }

  -- where both are no larger and the pairs differ, one of the two figures differs
  differ : {p q : AB} → (𝓐 and 𝓑).◌⊑◌ p q → (p ≡ q → ⊥) → ((p.first ≡ q.first → ⊥) ⊎ ((p.first ≡ q.first) × (p.second ≡ q.second → ⊥)))
  differ {p} {q} h n =
      by_cases (A.⊑_decide q.first p.first)
      (λ k. inr (A.⊑_antisym h.0 k, λ e. n (both_path (A.⊑_antisym h.0 k) e)))
      (λ k. inl (λ e. k (rw e (A.⊑_refl q.first))))

  pub irrefl_both : {p q : AB} → FirstThenSecond 𝓐 𝓑 p q → p ≡ q → ⊥
  irrefl_both (by_first h) e = A.≺_irrefl h (ap (λ z. z.first) e)
  irrefl_both (by_second e' h) e = B.≺_irrefl h (ap (λ z. z.second) e)

  pub trans_both : {p q r : AB} → FirstThenSecond 𝓐 𝓑 p q → FirstThenSecond 𝓐 𝓑 q r → FirstThenSecond 𝓐 𝓑 p r
  trans_both (by_first h) (by_first k) = by_first (A.≺_trans h k)
  trans_both (by_first h) (by_second e k) = by_first (rw e at h)
  trans_both (by_second e h) (by_first k) = by_first (rw e k)
  trans_both (by_second e h) (by_second f k) = by_second (e ∙ f) (B.≺_trans h k)

  unfoldable pub compare_both : (p q : AB) → FirstThenSecond 𝓐 𝓑 p q ⊎ ((p ≡ q) ⊎ FirstThenSecond 𝓐 𝓑 q p)
  compare_both p q = pick (A.≺_compare p.first q.first) (B.≺_compare p.second q.second)
    where
      pick :
          (𝓐.◌≺◌ p.first q.first) ⊎ ((p.first ≡ q.first) ⊎ (𝓐.◌≺◌ q.first p.first)) →
          (𝓑.◌≺◌ p.second q.second) ⊎ ((p.second ≡ q.second) ⊎ (𝓑.◌≺◌ q.second p.second)) →
          FirstThenSecond 𝓐 𝓑 p q ⊎ ((p ≡ q) ⊎ FirstThenSecond 𝓐 𝓑 q p)
      pick (inl h) k = inl (by_first h)
      pick (inr (inl e)) (inl k) = inl (by_second e k)
      pick (inr (inl e)) (inr (inl f)) = inr (inl (both_path e f))
      pick (inr (inl e)) (inr (inr k)) = inr (inr (by_second (sym e) k))
      pick (inr (inr h)) k = inr (inr (by_first h))

  pub mono_both : {p q : AB} (c : AB) → FirstThenSecond 𝓐 𝓑 p q → FirstThenSecond 𝓐 𝓑 ((𝓐 and 𝓑).◌⊕◌ p c) ((𝓐 and 𝓑).◌⊕◌ q c)
  mono_both c (by_first h) = by_first (A.≺_mono c.first h)
  mono_both c (by_second e h) = by_second (ap (λ z. 𝓐.◌⊕◌ z c.first) e) (B.≺_mono c.second h)

  pub earlier-both : {p q : AB} → (𝓐 and 𝓑).◌⊑◌ p q → (p ≡ q → ⊥) → FirstThenSecond 𝓐 𝓑 p q
  earlier-both {p} {q} h n =
      ⊎_elim (λ d. by_first (A.⊑_earlier h.0 d)) (λ d. by_second d.0 (B.⊑_earlier h.1 d.1)) (differ h n)

  pub falls_both : {p q : AB} → (𝓐 and 𝓑).◌⊑◌ p q → (p ≡ q → ⊥) → A.size p.first + B.size p.second < A.size q.first + B.size q.second
  falls_both h n =
      ⊎_elim
      (λ d. omega (arith, A.size_falls h.0 d, size_below B h.1))
      (λ d. omega (arith, B.size_falls h.1 d.1, size_below A h.0))
      (differ h n)

  unfoldable pub and_lawful : Lawful (𝓐 and 𝓑)
  unfolding compare_both Dec.and
  and_lawful =
      record {
        ⊕_assoc = λ p q r. both_path (A.⊕_assoc _ _ _) (B.⊕_assoc _ _ _);
        ⊕_comm = λ p q. both_path (A.⊕_comm _ _) (B.⊕_comm _ _);
        ⊕_unit = λ p. both_path (A.⊕_unit _) (B.⊕_unit _);
        ⊑_refl = λ p. (A.⊑_refl _, B.⊑_refl _);
        ⊑_trans = λ h k. (A.⊑_trans h.0 k.0, B.⊑_trans h.1 k.1);
        ⊑_antisym = λ h k. both_path (A.⊑_antisym h.0 k.0) (B.⊑_antisym h.1 k.1);
        ⊑_decide = λ p q. Dec.and (A.⊑_decide p.first q.first) (B.⊑_decide p.second q.second);
        𝟘_least = λ p. (A.𝟘_least _, B.𝟘_least _);
        ⊕_mono = λ c h. (A.⊕_mono c.first h.0, B.⊕_mono c.second h.1);
        ⊕_cancel = λ c h. (A.⊕_cancel c.first h.0, B.⊕_cancel c.second h.1);
        left = λ h. record { first = A.left h.0; second = B.left h.1 };
        left_adds = λ h. both_path (A.left_adds h.0) (B.left_adds h.1);
        ≺_irrefl = irrefl_both;
        ≺_trans = trans_both;
        ≺_compare = compare_both;
        ≺_mono = mono_both;
        ⊑_earlier = earlier-both;
        size = λ p. A.size p.first + B.size p.second;
        size_falls = falls_both;
      }
