-- Laws of weights: of sums and orders, of beating, of the order of answers.
-- In this order: weights are lawful; equality is decided; sums; beating; answers.
use mathlib.Core.Path.{◌≡◌, refl, sym, ap, ◌∙◌, subst}
use mathlib.Core.Logic.Dec
use mathlib.Core.Logic.{◌⊎◌, inl, inr, ⊎_elim, by_cases}
use Prim.Native.Nat.{◌<◌}
use native.Mathlib.Omega.{arith}
use Rattle.paths.specs.Figures.{Figures, Lawful}
use Rattle.paths.specs.Weights.{weights, time, spent, Beats, Sooner, by_time, by_figures, NotLater, sooner, same}
use Rattle.paths.proofs.Decisions.{map?}
use Rattle.paths.proofs.Figures.{number_lawful, and_lawful}

unfoldable pub weights_lawful : {𝓛 : Figures} → Lawful 𝓛 → Lawful (weights 𝓛)
unfolding and_lawful number_lawful
weights_lawful lawful = and_lawful lawful number_lawful

-- Equality of lawful figures is decided, since it is ⊑ both ways
module _ {𝓕 : Figures} (K : Lawful 𝓕) where
  pub ⊑_of_eq : {a b : 𝓕.Figure} → a ≡ b → 𝓕.◌⊑◌ a b
  ⊑_of_eq {a} {b} e = rw e (K.⊑_refl b)

  unfoldable pub same? : (a b : 𝓕.Figure) → Dec (a ≡ b)
  unfolding map? Dec.and
  same? a b =
      map? (λ z. K.⊑_antisym z.0 z.1) (λ e. (⊑_of_eq e, ⊑_of_eq (sym e))) (Dec.and (K.⊑_decide a b) (K.⊑_decide b a))

  pub unit_⊕ : (a : 𝓕.Figure) → 𝓕.◌⊕◌ 𝓕.𝟘 a ≡ a
  unit_⊕ a = K.⊕_comm _ _ ∙ K.⊕_unit a

  -- sums grow in both places
  pub ⊕_mono_both : {a b c d : 𝓕.Figure} → 𝓕.◌⊑◌ a b → 𝓕.◌⊑◌ c d → 𝓕.◌⊑◌ (𝓕.◌⊕◌ a c) (𝓕.◌⊕◌ b d)
  ⊕_mono_both {a} {b} {c} {d} h k =
      K.⊑_trans (K.⊕_mono c h) (rw (K.⊕_comm b c) (rw (K.⊕_comm b d) (K.⊕_mono b k)))

  pub ⊕_mono_right : (c : 𝓕.Figure) {a b : 𝓕.Figure} → 𝓕.◌⊑◌ a b → 𝓕.◌⊑◌ (𝓕.◌⊕◌ c a) (𝓕.◌⊕◌ c b)
  ⊕_mono_right c h = ⊕_mono_both (K.⊑_refl c) h

  pub ⊕_cancel_right : (c : 𝓕.Figure) {a b : 𝓕.Figure} → 𝓕.◌⊑◌ (𝓕.◌⊕◌ c a) (𝓕.◌⊕◌ c b) → 𝓕.◌⊑◌ a b
  ⊕_cancel_right c {a} {b} h = K.⊕_cancel c (rw (K.⊕_comm a c) (rw (K.⊕_comm b c) h))

  -- a sum is no smaller than its parts
  pub part_⊑_left : (a b : 𝓕.Figure) → 𝓕.◌⊑◌ a (𝓕.◌⊕◌ a b)
  part_⊑_left a b = K.⊑_trans (⊑_of_eq (sym (K.⊕_unit a))) (⊕_mono_right a (K.𝟘_least b))

  pub part_⊑_right : (a b : 𝓕.Figure) → 𝓕.◌⊑◌ b (𝓕.◌⊕◌ a b)
  part_⊑_right a b = K.⊑_trans (part_⊑_left b a) (⊑_of_eq (K.⊕_comm b a))

  pub ⊕_cancel_eq : {a b : 𝓕.Figure} (c : 𝓕.Figure) → 𝓕.◌⊕◌ a c ≡ 𝓕.◌⊕◌ b c → a ≡ b
  ⊕_cancel_eq c e = K.⊑_antisym (K.⊕_cancel c (⊑_of_eq e)) (K.⊕_cancel c (⊑_of_eq (sym e)))

  pub ⊕_cancel_eq_right : (c : 𝓕.Figure) {a b : 𝓕.Figure} → 𝓕.◌⊕◌ c a ≡ 𝓕.◌⊕◌ c b → a ≡ b
  ⊕_cancel_eq_right c {a} {b} e = ⊕_cancel_eq c (K.⊕_comm a c ∙ e ∙ K.⊕_comm c b)

module _ {𝓛 : Figures} (lawful : Lawful 𝓛) where
  abbrev W : Lawful (weights 𝓛)
  W = weights_lawful lawful

  open weights 𝓛 use {Figure as Weight, ◌⊕◌, 𝟘, ◌⊑◌, ◌≺◌}

  infixl 60 ◌⊕◌
  infix 40 ◌⊑◌
  infix 40 ◌≺◌
  -- ---- Beating

  -- what is no larger is equal or beats
  pub ⊑_cases : {p q : Weight} → p ⊑ q → (p ≡ q) ⊎ Beats 𝓛 p q
  ⊑_cases {p} {q} h = by_cases (same? W p q) inl (λ n. inr (record { no_larger = h; smaller = n }))

  pub unbeaten-below : {p q : Weight} → p ⊑ q → (Beats 𝓛 p q → ⊥) → p ≡ q
  unbeaten-below h n = ⊎_elim (λ e. e) (λ b. absurd (n b)) (⊑_cases h)

  pub beats_then_⊑ : {p q r : Weight} → Beats 𝓛 p q → q ⊑ r → Beats 𝓛 p r
  beats_then_⊑ {p} {q} {r} b h =
      record {
        no_larger = W.⊑_trans b.no_larger h;
        smaller = λ e. b.smaller (W.⊑_antisym b.no_larger (W.⊑_trans h (⊑_of_eq W (sym e))));
      }

  pub ⊑_then_beats : {p q r : Weight} → p ⊑ q → Beats 𝓛 q r → Beats 𝓛 p r
  ⊑_then_beats {p} {q} {r} h b =
      record {
        no_larger = W.⊑_trans h b.no_larger;
        smaller = λ e. b.smaller (W.⊑_antisym b.no_larger (W.⊑_trans (⊑_of_eq W (sym e)) h));
      }

  -- beating speaks of the weights, however they are written
  pub beats_cast : {p q p' q' : Weight} → p' ≡ p → Beats 𝓛 p q → q ≡ q' → Beats 𝓛 p' q'
  beats_cast {p' = p'} e b f = subst (λ z. Beats 𝓛 p' z) f (rw e b)

  -- a beaten part makes a beaten sum
  pub beats_sum_right : (c : Weight) {p q : Weight} → Beats 𝓛 p q → Beats 𝓛 (c ⊕ p) (c ⊕ q)
  beats_sum_right c b =
      record { no_larger = ⊕_mono_right W c b.no_larger; smaller = λ e. b.smaller (⊕_cancel_eq_right W c e) }

  -- what takes no more figures and less time beats
  pub beats_by_time : {p q : Weight} → p ⊑ q → time 𝓛 p < time 𝓛 q → Beats 𝓛 p q
  beats_by_time h k = record { no_larger = h; smaller = λ e. let z = ap (time 𝓛) e in omega arith }

  -- ---- The order of answers

  pub sooner_trans : {p q r : Weight} → Sooner 𝓛 p q → Sooner 𝓛 q r → Sooner 𝓛 p r
  sooner_trans (by_time h) (by_time k) = by_time (omega arith)
  sooner_trans (by_time h) (by_figures e k) = by_time (omega arith)
  sooner_trans (by_figures e h) (by_time k) = by_time (omega arith)
  sooner_trans (by_figures e h) (by_figures f k) = by_figures (e ∙ f) (lawful.≺_trans h k)

  pub sooner_irrefl : {p q : Weight} → Sooner 𝓛 p q → p ≡ q → ⊥
  sooner_irrefl (by_time h) e = let z = ap (time 𝓛) e in omega arith
  sooner_irrefl (by_figures e h) f = lawful.≺_irrefl h (ap (spent 𝓛) f)

  pub not_later_refl : (p : Weight) → NotLater 𝓛 p p
  not_later_refl p = same refl

  pub not_later_trans : {p q r : Weight} → NotLater 𝓛 p q → NotLater 𝓛 q r → NotLater 𝓛 p r
  not_later_trans (sooner h) (sooner k) = sooner (sooner_trans h k)
  not_later_trans {p} (sooner h) (same e) = sooner (rw e at h)
  not_later_trans (same e) k = rw e k

  pub not_later_antisym : {p q : Weight} → NotLater 𝓛 p q → NotLater 𝓛 q p → p ≡ q
  not_later_antisym (sooner h) (sooner k) = absurd (sooner_irrefl (sooner_trans h k) refl)
  not_later_antisym (sooner h) (same e) = sym e
  not_later_antisym (same e) k = e

  pub not_later_of_eq : {p q : Weight} → p ≡ q → NotLater 𝓛 p q
  not_later_of_eq e = same e

  -- one of two answers is not later than the other
  unfoldable pub compare_answers : (p q : Weight) → NotLater 𝓛 p q ⊎ Sooner 𝓛 q p
  unfolding number_lawful
  compare_answers p q = pick (number_lawful.≺_compare (time 𝓛 p) (time 𝓛 q)) (lawful.≺_compare (spent 𝓛 p) (spent 𝓛 q))
    where
      pick :
          (time 𝓛 p < time 𝓛 q) ⊎ ((time 𝓛 p ≡ time 𝓛 q) ⊎ (time 𝓛 q < time 𝓛 p)) →
          (𝓛.◌≺◌ (spent 𝓛 p) (spent 𝓛 q)) ⊎ ((spent 𝓛 p ≡ spent 𝓛 q) ⊎ (𝓛.◌≺◌ (spent 𝓛 q) (spent 𝓛 p))) →
          NotLater 𝓛 p q ⊎ Sooner 𝓛 q p
      pick (inl h) k = inl (sooner (by_time h))
      pick (inr (inl e)) (inl k) = inl (sooner (by_figures e k))
      pick (inr (inl e)) (inr (inl f)) = inl (same (λ i. record { first = f i; second = e i }))
      pick (inr (inl e)) (inr (inr k)) = inr (by_figures (sym e) k)
      pick (inr (inr h)) k = inr (by_time h)

  -- what is no larger is not later
  pub ⊑_not_later : {p q : Weight} → p ⊑ q → NotLater 𝓛 p q
  ⊑_not_later {p} {q} h = ⊎_elim (λ k. k) (λ k. same (absurd (late k))) (compare_answers p q)
    where
      late : Sooner 𝓛 q p → ⊥
      late (by_time k) = let z = h.1 in omega arith
      late (by_figures e k) =
          by_cases (same? lawful (spent 𝓛 p) (spent 𝓛 q))
          (λ f. lawful.≺_irrefl k (sym f))
          (λ n. lawful.≺_irrefl (lawful.≺_trans k (lawful.⊑_earlier h.0 n)) refl)

  -- of two sums the one of earlier parts is not later
  pub not_later_sum : {p q r s : Weight} → NotLater 𝓛 p q → NotLater 𝓛 r s → NotLater 𝓛 (p ⊕ r) (q ⊕ s)
  not_later_sum {p} {q} {r} {s} h k =
      not_later_trans (sum_left r h) (rw (W.⊕_comm q r) (rw (W.⊕_comm q s) (sum_left q k)))
    where
      sum_left : {a b : Weight} (c : Weight) → NotLater 𝓛 a b → NotLater 𝓛 (a ⊕ c) (b ⊕ c)
      sum_left c (same e) = same (ap (λ z. z ⊕ c) e)
      sum_left c (sooner (by_time m)) = sooner (by_time (omega arith))
      sum_left c (sooner (by_figures e m)) = sooner (by_figures (omega arith) (lawful.≺_mono (spent 𝓛 c) m))
