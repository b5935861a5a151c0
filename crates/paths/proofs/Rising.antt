-- Laws of rising lists: their tails rise, and the first entry stands before every other.
use mathlib.Core.Path.{◌≡◌, refl}
use mathlib.Core.Logic.{◌⊎◌, inl, inr}
use mathlib.Core.List.Memᴰ
use mathlib.Core.List.{List, ◌∷◌, Memᴰ}
use Rattle.paths.specs.Figures.{Figures, Lawful}
use Rattle.paths.specs.Weights.{weights, Rising, none, one, more}
use Rattle.paths.proofs.Weights.{weights_lawful}

module _ {𝓛 : Figures} where
  pub rising_tail : {p : (weights 𝓛).Figure} {l : List (weights 𝓛).Figure} → Rising 𝓛 (p ∷ l) → Rising 𝓛 l
  rising_tail one = none
  rising_tail (more h r) = r

  -- what stands before every entry may be put in front
  pub rising_cons :
      {p : (weights 𝓛).Figure} {l : List (weights 𝓛).Figure} → ((q : (weights 𝓛).Figure) → Memᴰ q l → (weights 𝓛).◌≺◌ p q) →
      Rising 𝓛 l → Rising 𝓛 (p ∷ l)
  rising_cons before none = one
  rising_cons before (one {p = q}) = more (before q (Memᴰ.head refl)) one
  rising_cons before (more {p = q} h r) = more (before q (Memᴰ.head refl)) (more h r)

module _ {𝓛 : Figures} (lawful : Lawful 𝓛) where
  -- the first entry stands before every other
  pub rising-head : {p q : (weights 𝓛).Figure} {l : List (weights 𝓛).Figure} → Rising 𝓛 (p ∷ l) → Memᴰ q l → (weights 𝓛).◌≺◌ p q
  rising-head one m = absurd (Memᴰ.not-nil m)
  rising-head {p} {q} (more {q = x} {l = l} h r) m = pick (λ m'. rising-head r m') (Memᴰ.cases_cons m)
    where
      pick : (Memᴰ q l → (weights 𝓛).◌≺◌ x q) → (q ≡ x) ⊎ Memᴰ q l → (weights 𝓛).◌≺◌ p q
      pick f (inl e) = rw e h
      pick f (inr m') = (weights_lawful lawful).≺_trans h (f m')
