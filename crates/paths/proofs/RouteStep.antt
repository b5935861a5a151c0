-- The step that finds a first route from its start: the smallest junction from which the rest can be spent exactly begins it.
-- In this order: what may be left to spend; the step and back; the rest after the only arc; unbeaten rests.
use mathlib.Core.Path.{◌≡◌, refl, sym, ap, ◌∙◌, subst}
use mathlib.Core.Logic.{◌↔◌}
use mathlib.Core.List.{List, [], ◌∷◌}
use Prim.Native.Nat.{ℕ, ◌≤◌, ◌<◌}
use native.Mathlib.Decide.{dec_le}
use native.Mathlib.Nat.{le_refl, le_antisymm}
use native.Mathlib.Omega.{arith}
use Rattle.paths.specs.Figures.{Figures, Lawful}
use Rattle.paths.specs.Weights.{weights}
use Rattle.paths.specs.Network.{Network, Walk, stay, go, weight, junctions}
use Rattle.paths.specs.TradeOff.{Skyline}
use Rattle.paths.specs.Route.{NotAfter, ended, smaller, equal, FirstAmong, FirstRoute}
use Rattle.paths.proofs.Weights.{weights_lawful, ⊕_cancel_eq_right, unbeaten-below, beats_then_⊑}
use Rattle.paths.proofs.Walks.{rest-unbeaten}
use Rattle.paths.proofs.Route.{not_after_rest, not_after_begins}

module _ {𝓛 : Figures} (𝓝 : Network 𝓛) (Wanted : (weights 𝓛).Figure → Type 0) where
  open weights 𝓛 use {Figure as Weight, ◌⊕◌}

  infixl 60 ◌⊕◌
  -- what may be left to spend after a first arc from s to v
  pub record RestWanted (s v : ℕ) (q : Weight) : Type 0 where
    pub number : ℕ
    pub weighs : Weight
    pub arc : 𝓝.Arc s v number weighs
    pub wanted : Wanted (weighs ⊕ q)

  -- from no junction smaller than v can the rest be spent
  abbrev pub Smallest : ℕ → ℕ → ℕ → Type 0
  Smallest s t v = (x : ℕ) (k : Walk 𝓝 x t) → RestWanted s x (weight k) → v ≤ x

  -- the junctions js are s and those of the first rest from the smallest junction
  pub record FirstStep (s t : ℕ) (js : List ℕ) : Type 0 where
    pub to : ℕ
    pub rest : List ℕ
    pub begins : js ≡ s ∷ rest
    pub first_rest : FirstAmong 𝓝 (RestWanted s to) to t rest
    pub smallest : Smallest s t to

module _ {𝓛 : Figures} {𝓝 : Network 𝓛} where
  -- the junctions after the start
  later : {s t : ℕ} → Walk 𝓝 s t → List ℕ
  later stay = []
  later (go a k) = junctions k

  junctions_begin : {s t : ℕ} (w : Walk 𝓝 s t) → junctions w ≡ s ∷ later w
  unfolding junctions later
  junctions_begin stay = refl
  junctions_begin (go a k) = refl

  -- of two walks the one from the smaller start comes first
  start-decides : {s t x y : ℕ} (w : Walk 𝓝 s t) (k : Walk 𝓝 x y) → s < x → NotAfter (junctions w) (junctions k)
  start-decides w k h = rw (junctions_begin w, junctions_begin k) (smaller h)

  start_no_larger : {s t x y : ℕ} (w : Walk 𝓝 s t) (k : Walk 𝓝 x y) → NotAfter (junctions w) (junctions k) → s ≤ x
  start_no_larger w k h = not_after_begins (rw (junctions_begin w, junctions_begin k) at h)

  -- a junction alone comes first of all walks from it
  pub stay-first : {Wanted : (weights 𝓛).Figure → Type 0} {s : ℕ} → Wanted (weights 𝓛).𝟘 → FirstAmong 𝓝 Wanted s s (s ∷ [])
  unfolding weight junctions
  stay-first want =
      record { walk = stay; wanted = want; meets = refl; first = λ other k. rw (junctions_begin other) (equal refl ended) }

  -- walks whose weights are wanted alike have one first route
  pub first_among_same :
      {Wanted Wanted' : (weights 𝓛).Figure → Type 0} {s t : ℕ} {js : List ℕ} →
      ((w : Walk 𝓝 s t) → Wanted (weight w) ↔ Wanted' (weight w)) →
      FirstAmong 𝓝 Wanted s t js →
      FirstAmong 𝓝 Wanted' s t js
  first_among_same alike z =
      record {
        walk = z.walk;
        wanted = (alike z.walk).0 z.wanted;
        meets = z.meets;
        first = λ other want. z.first other ((alike other).1 want);
      }

  module _ {Wanted : (weights 𝓛).Figure → Type 0} where
    -- it comes before every other route: by its second junction, or else by the rest
    step-first :
        {s t v : ℕ} {js : List ℕ} (other : Walk 𝓝 s t) →
        (s ≡ t → ⊥) →
        FirstAmong 𝓝 (RestWanted 𝓝 Wanted s v) v t js →
        Smallest 𝓝 Wanted s t v →
        Wanted (weight other) →
        NotAfter (s ∷ js) (junctions other)
    unfolding weight junctions
    step-first stay apart z small want = absurd (apart refl)
    step-first {v = v} {js} (go {s = s} {v = x} {t = t} {r = r} {w = p} a k) apart z small want = equal refl (pick (dec_le x v))
      where
        left_over : RestWanted 𝓝 Wanted s x (weight k)
        left_over = record { number = r; weighs = p; arc = a; wanted = want }

        pick : Dec (x ≤ v) → NotAfter js (junctions k)
        pick (yes h) =
            subst (λ y. (l : Walk 𝓝 y t) → RestWanted 𝓝 Wanted s y (weight l) → NotAfter js (junctions l))
            (le_antisymm (small x k left_over) h)
            z.first
            k
            left_over
        pick (no h) = rw (← z.meets) (start-decides z.walk k (omega arith))

    -- the smallest junction from which the rest can be spent begins the first route
    pub first_step :
        {s t v : ℕ} {js : List ℕ} →
        (s ≡ t → ⊥) →
        FirstAmong 𝓝 (RestWanted 𝓝 Wanted s v) v t js →
        Smallest 𝓝 Wanted s t v →
        FirstAmong 𝓝 Wanted s t (s ∷ js)
    unfolding weight junctions
    first_step {s} apart z small =
        record {
          walk = go z.wanted.arc z.walk;
          wanted = z.wanted.wanted;
          meets = ap (λ ks. s ∷ ks) z.meets;
          first = λ other want. step-first other apart z small want;
        }

    -- a walk that comes first goes on to the smallest junction, and its rest comes first there
    step_back :
        {s t : ℕ} (w : Walk 𝓝 s t) →
        (s ≡ t → ⊥) →
        Wanted (weight w) →
        ((other : Walk 𝓝 s t) → Wanted (weight other) → NotAfter (junctions w) (junctions other)) →
        FirstStep 𝓝 Wanted s t (junctions w)
    unfolding weight junctions
    step_back stay apart want first = absurd (apart refl)
    step_back (go {v = v} {r = r} {w = p} a k) apart want first =
        record {
          to = v;
          rest = junctions k;
          begins = refl;
          first_rest = record {
            walk = k;
            wanted = record { number = r; weighs = p; arc = a; wanted = want };
            meets = refl;
            first = λ other y. not_after_rest (first (go y.arc other) y.wanted) (le_refl _);
          };
          smallest = λ x l y. start_no_larger k l (not_after_rest (first (go y.arc l) y.wanted) (le_refl _));
        }

    -- and every first route between two junctions begins so
    pub first-step-back : {s t : ℕ} {js : List ℕ} → (s ≡ t → ⊥) → FirstAmong 𝓝 Wanted s t js → FirstStep 𝓝 Wanted s t js
    first-step-back apart z =
        rw z.meets at (step_back z.walk apart z.wanted (λ other want. rw z.meets (z.first other want)))

module _ {𝓛 : Figures} (𝓝 : Network 𝓛) where
  -- From a junction to itself the route is that junction alone
  pub stay-route : (s : ℕ) → FirstRoute 𝓝 s s (weights 𝓛).𝟘 (s ∷ [])
  stay-route s = stay-first refl

module _ {𝓛 : Figures} (lawful : Lawful 𝓛) where
  abbrev W : Lawful (weights 𝓛)
  W = weights_lawful lawful

  open weights 𝓛 use {Figure as Weight, ◌⊕◌, ◌⊑◌}

  infixl 60 ◌⊕◌
  infix 40 ◌⊑◌
  -- where every arc from s to v weighs w, one weight is left to spend after it
  pub rest_of_only_arc :
      (𝓝 : Network 𝓛) {s v r : ℕ} {w p q : Weight} →
      𝓝.Arc s v r w →
      ((n : ℕ) (z : Weight) → 𝓝.Arc s v n z → z ≡ w) →
      w ⊕ q ≡ p →
      (k : Weight) →
      RestWanted 𝓝 (λ z. z ≡ p) s v k ↔ (k ≡ q)
  rest_of_only_arc 𝓝 {s} {v} {r} {w} {p} {q} a only adds k =
      (forth, λ e. record { number = r; weighs = w; arc = a; wanted = ap (λ z. w ⊕ z) e ∙ adds })
    where
      forth : RestWanted 𝓝 (λ z. z ≡ p) s v k → k ≡ q
      forth y = ⊕_cancel_eq_right W w (ap (λ z. z ⊕ k) (sym (only y.number y.weighs y.arc)) ∙ y.wanted ∙ sym adds)

  module _ {𝓝 : Network 𝓛} where
    -- because the whole is unbeaten it is enough that the rest fits into it
    module _ {s t v r : ℕ} {p w : Weight} (line : Skyline 𝓝 s t p) (a : 𝓝.Arc s v r w) (k : Walk 𝓝 v t) (covers : w ⊕ weight k ⊑ p) where
      pub covering_spends : w ⊕ weight k ≡ p
      unfolding weight
      covering_spends = unbeaten-below lawful covers (line.unbeaten (go a k))

      -- and the rest is unbeaten too
      pub rest_skyline : Skyline 𝓝 v t (weight k)
      unfolding weight
      rest_skyline =
          rest-unbeaten lawful w k (λ j. record { walk = go a j; weighs = refl }) (λ other b. line.unbeaten other (beats_then_⊑ lawful b covers))
