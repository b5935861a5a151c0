-- The rule of 42 as the code tests it: the list is short, and every entry fits.
use Rattle.std.proofs.Common.{◌≡◌, refl, sym, ◌∙◌, ℕ, ◌<◌, ◌≤◌, ◌↔◌, List, length, Bool, true, false, ◌&&◌, IsTrue}
use borrow.Author.Tests.{le-leb}
use Rattle.refusals.specs.Order.{every}
use Rattle.refusals.proofs.Order.{every_all, every_holds}
use Rattle.joins.specs.Form.{most_entries, entry_fits, well_formed}

-- a test that holds leaves the next one
and_holds : {a : Bool} (b : Bool) → a ≡ true → (a && b) ≡ b
and_holds b e = rw e

-- two tests that hold together
same_test : (a b : Bool) → (IsTrue a → b ≡ true) → (b ≡ true → IsTrue a) → a ≡ b
same_test true b f g = sym (f refl)
same_test false true f g = cc (g refl)
same_test false false f g = refl

-- a short list is well formed if every entry fits, and not else
pub formed_by :
    (times energies : List ℕ) {fit : Bool} → length times ≤ most_entries →
    IsTrue fit ↔ ((k : ℕ) → k < length times → entry_fits times energies k ≡ true) → fit ≡ well_formed times energies
unfolding well_formed
formed_by times energies {fit} short told =
    same_test fit (every (entry_fits times energies) (length times))
    (λ h. every_all (entry_fits times energies) (length times) (told.0 h))
    (λ h. told.1 (λ k inside. every_holds (entry_fits times energies) (length times) h inside))
    ∙ sym (and_holds (every (entry_fits times energies) (length times)) (le-leb _ _ short))
