-- Routes: junction lists are ordered place by place, the first route is one, and an unbeaten walk visits no junction twice.
-- In this order: the order of lists; lists where none stands twice; the first route is one; unbeaten walks.
use mathlib.Core.Path.{◌≡◌, refl, sym, ap, ap₂}
use mathlib.Core.Logic.{⊎_elim}
use mathlib.Core.List.Memᴰ
use mathlib.Core.List.{List, [], ◌∷◌, Memᴰ}
use Prim.Native.Nat.{ℕ, zero, suc, ◌≤◌, ◌<◌}
use native.Mathlib.Decide.{dec_le}
use native.Mathlib.Omega.{arith}
use lib.ListN.{length}
use Rattle.paths.specs.Figures.{Figures, Lawful}
use Rattle.paths.specs.Weights.{weights, time, Beats}
use Rattle.paths.specs.Network.{Network, Walk, stay, go, weight, junctions}
use Rattle.paths.specs.Route.{NotAfter, ended, smaller, equal, NoneTwice, none, next, FirstAmong, FirstRoute}
use Rattle.paths.proofs.Weights.{weights_lawful, part_⊑_right, ⊑_of_eq, beats_sum_right, beats_by_time}
use Rattle.paths.proofs.Walks.{Split, split, split-weighs}

-- ---- The order of junction lists

-- two lists of which neither comes after the other are one
pub not_after_antisym : {js ks : List ℕ} → NotAfter js ks → NotAfter ks js → js ≡ ks
not_after_antisym ended ended = refl
not_after_antisym (smaller h) (smaller k) = absurd (omega arith)
not_after_antisym (smaller h) (equal e k) = absurd (omega arith)
not_after_antisym (equal e h) (smaller k) = absurd (omega arith)
not_after_antisym (equal e h) (equal f k) = ap₂ (λ j js. j ∷ js) e (not_after_antisym h k)

-- where the list that comes first does not begin with a smaller junction, the rest decides
pub not_after_rest : {j k : ℕ} {js ks : List ℕ} → NotAfter (j ∷ js) (k ∷ ks) → k ≤ j → NotAfter js ks
not_after_rest (smaller h) g = absurd (omega arith)
not_after_rest (equal e h) g = h

-- the list that comes first begins with the smaller junction
pub not_after_begins : {j k : ℕ} {js ks : List ℕ} → NotAfter (j ∷ js) (k ∷ ks) → j ≤ k
not_after_begins (smaller h) = omega arith
not_after_begins (equal e h) = omega arith

-- ---- No junction twice

-- what a list keeps when n is taken out
record Without (n : ℕ) (js : List ℕ) : Type 0 where
  kept : List ℕ
  kept-once : NoneTwice kept
  kept_met : (j : ℕ) → Memᴰ j kept → Memᴰ j js
  kept-below : (j : ℕ) → Memᴰ j kept → j < n
  one_fewer : length js ≤ suc (length kept)

-- the largest number stands at most once in a list where none stands twice
without : (n : ℕ) {js : List ℕ} → NoneTwice js → ((j : ℕ) → Memᴰ j js → j < suc n) → Without n js
without n none below = record { kept = []; kept-once = none; kept_met = λ j m. m; kept-below = λ j m. elim m [ ]; one_fewer = omega arith }
without n (next {j} {js} new once) below = pick (without n once (λ k m. below k (Memᴰ.tail m))) (dec_le n j)
  where
    pick : Without n js → Dec (n ≤ j) → Without n (j ∷ js)
    pick z (yes h) =
        record {
          kept = js;
          kept-once = once;
          kept_met = λ k m. Memᴰ.tail m;
          kept-below = λ k m.
              let apart : k ≡ j → ⊥ = λ e. new (Memᴰ.cast (sym e) m) in
              omega (arith, below k (Memᴰ.tail m), below j (Memᴰ.head refl));
          one_fewer = omega arith;
        }
    pick z (no h) =
        record {
          kept = j ∷ z.kept;
          kept-once = next (λ m. new (z.kept_met j m)) z.kept-once;
          kept_met = λ k m. ⊎_elim (λ e. Memᴰ.head e) (λ m'. Memᴰ.tail (z.kept_met k m')) (Memᴰ.cases_cons m);
          kept-below = λ k m. ⊎_elim (λ e. omega arith) (λ m'. z.kept-below k m') (Memᴰ.cases_cons m);
          one_fewer = omega arith;
        }

-- a list of junctions below n that visits none twice has at most n of them
pub visits_once_short : (n : ℕ) {js : List ℕ} → NoneTwice js → ((j : ℕ) → Memᴰ j js → j < n) → length js ≤ n
visits_once_short zero none below = omega arith
visits_once_short zero (next {j} {js} new once) below = let z = below j (Memᴰ.head refl) in omega arith
visits_once_short (suc n) once below =
    let z = without n once below in
    let short : length z.kept ≤ n = visits_once_short n z.kept-once z.kept-below in
    omega (arith, z.one_fewer)

-- ---- The first route is one

module _ {𝓛 : Figures} {𝓝 : Network 𝓛} where
  -- two lists that both come first are one
  pub first_among_unique :
      {Wanted : (weights 𝓛).Figure → Type 0} {s t : ℕ} {js ks : List ℕ} →
      FirstAmong 𝓝 Wanted s t js →
      FirstAmong 𝓝 Wanted s t ks →
      js ≡ ks
  first_among_unique a b =
      not_after_antisym (rw b.meets at (a.first b.walk b.wanted)) (rw a.meets at (b.first a.walk a.wanted))

  -- A pair has one first route only
  pub first_route_unique : {s t : ℕ} {p : (weights 𝓛).Figure} {js ks : List ℕ} → FirstRoute 𝓝 s t p js → FirstRoute 𝓝 s t p ks → js ≡ ks
  first_route_unique a b = first_among_unique a b

-- ---- Unbeaten walks

module _ {𝓛 : Figures} (lawful : Lawful 𝓛) where
  abbrev W : Lawful (weights 𝓛)
  W = weights_lawful lawful

  open weights 𝓛 use {Figure as Weight, ◌⊕◌}

  infixl 60 ◌⊕◌
  module _ {𝓝 : Network 𝓛} where
    -- the way back to the start can be dropped, which saves the time of an arc at least
    dropped_beats :
        (w : Weight) {s v t : ℕ} {k : Walk 𝓝 v t} → 1 ≤ time 𝓛 w → (z : Split k s) → Beats 𝓛 (weight z.after) (w ⊕ weight k)
    dropped_beats w {k = k} slow z =
        beats_by_time lawful
        (W.⊑_trans (part_⊑_right W (weight z.before) (weight z.after))
        (W.⊑_trans (⊑_of_eq W (split-weighs lawful z)) (part_⊑_right W w (weight k))))
        (omega (arith, ap (time 𝓛) (split-weighs lawful z)))

    -- A path of an unbeaten pair visits no junction twice
    pub unbeaten_visits_once :
        {s t : ℕ} (w : Walk 𝓝 s t) → ((other : Walk 𝓝 s t) → Beats 𝓛 (weight other) (weight w) → ⊥) → NoneTwice (junctions w)
    unfolding weight junctions
    unbeaten_visits_once stay unbeaten = next Memᴰ.not-nil none
    unbeaten_visits_once (go {w = p} a k) unbeaten =
        next
        (λ m. let z = split k m in unbeaten z.after (dropped_beats p (𝓝.takes_time a) z))
        (unbeaten_visits_once k (λ other b. unbeaten (go a other) (beats_sum_right lawful p b)))
