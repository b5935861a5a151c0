-- What a span answers. In this order: a span that begins; the best that is noted.
use mathlib.Core.Path.{◌≡◌, subst}
use mathlib.Core.Logic.{⊎_elim}
use mathlib.Core.List.{List}
use Prim.Native.Nat.{ℕ, ◌+◌, ◌-◌, ◌≤◌, ◌<◌}
use native.Mathlib.Decide.{ℕ_discrete, dec_le}
use native.Mathlib.Omega.{arith}
use lib.ListN.{length, get_or}
use Rattle.paths.specs.Weights.{energy, pair, time, spent, NotLater, same, sooner, by_time, by_figures}
use Rattle.lists.specs.Entries.{Weight}
use Rattle.spans.specs.declared.Span.{Span}
use Rattle.spans.specs.working.Noting.{span_seconds, no_energy, Sought}
use Rattle.spans.specs.working.Waiting.{Waiting, NoSpan, BestBelow}

-- ---- A span that begins

-- nothing is noted before the first entry
pub waiting_start : {Has : Weight → Type 0} (bound : ℕ) {span : Span} {leasts : List ℕ} → NoSpan span → length leasts ≡ span_seconds → Waiting Has bound span leasts
waiting_start bound none long =
    record {
      long = long;
      short = omega (arith, none.none_noted);
      small = omega (arith, none.from_none);
      real = λ k h g. absurd (omega (arith, none.none_noted));
      least = λ k e h g m w. absurd (omega (arith, none.none_noted));
      none_before = λ p h w. omega (arith, none.from_none, none.none_passed);
    }

-- ---- The best that is noted

module _ {Has : Weight → Type 0} {bound : ℕ} {span : Span} {leasts : List ℕ} (now : Waiting Has bound span leasts) (most : bound ≤ no_energy) {r : ℕ}
    (sought : Sought leasts span.passed span.noted bound r) (inside : r < span.noted) where
  -- what is below the bound and takes no longer than the second found takes just so long, and has no less energy
  noted-least : (p : Weight) → Has p → spent energy p < bound → time energy p ≤ span.first.0 + r → (time energy p ≡ span.first.0 + r) × (get_or leasts r 0 ≤ spent energy p)
  noted-least p h w late = pick (dec_le r second)
    where
      second : ℕ
      second = time energy p - span.first.0

      there : time energy p ≡ span.first.0 + second
      there = omega (arith, now.none_before p h w)

      at_least : get_or leasts second 0 ≤ spent energy p
      at_least =
          now.least second (spent energy p) (omega (arith, now.none_before p h w)) (omega arith)
          (subst (λ t. Has (pair t (spent energy p))) there h) w

      pick : Dec (r ≤ second) → (time energy p ≡ span.first.0 + r) × (get_or leasts r 0 ≤ spent energy p)
      pick (yes not_before) = let e : second ≡ r = omega arith in (omega (arith, there), rw e at at_least)
      pick (no before) = absurd (omega (arith, at_least, sought.passed second (omega (arith, now.none_before p h w)) (omega arith)))

  module _ {takes spends : ℕ} (is-time : takes ≡ span.first.0 + r) (is-energy : spends ≡ get_or leasts r 0) where
    -- the second found has the best pair below the bound
    pub noted-best : BestBelow Has bound (pair takes spends)
    noted-best =
        record {
          among = rw (is-time, is-energy) real;
          below = omega (arith, sought.found inside);
          least = λ q h w. order q h w (dec_le (time energy q) (span.first.0 + r));
        }
      where
        real : Has (pair (span.first.0 + r) (get_or leasts r 0))
        real = ⊎_elim (λ e. absurd (omega (arith, sought.found inside))) (λ z. z) (now.real r sought.not_before inside)

        order : (q : Weight) → Has q → spent energy q < bound → Dec (time energy q ≤ span.first.0 + r) → NotLater energy (pair takes spends) q
        order q h w (no later) = sooner (by_time (omega arith))
        order q h w (yes late) = pick (ℕ_discrete spends (spent energy q))
          where
            there : (time energy q ≡ span.first.0 + r) × (get_or leasts r 0 ≤ spent energy q)
            there = noted-least q h w late

            pick : Dec (spends ≡ spent energy q) → NotLater energy (pair takes spends) q
            pick (yes e) = let t : takes ≡ time energy q = omega (arith, there.0) in same (λ n. pair (t n) (e n))
            pick (no apart) = sooner (by_figures (omega (arith, there.0)) (omega (arith, there.1)))

    -- behind it the span waits for what is below it
    pub noted-waits : Waiting Has spends (record { first = span.first; noted = span.noted; passed = r + 1 }) leasts
    noted-waits =
        record {
          long = now.long;
          short = now.short;
          small = now.small;
          real = λ k h g. now.real k (omega (arith, sought.not_before)) g;
          least = λ k e h g m w. now.least k e (omega (arith, sought.not_before)) g m (omega (arith, sought.found inside));
          none_before = λ p h w. behind p h w (dec_le (time energy p) (span.first.0 + r));
        }
      where
        behind : (p : Weight) → Has p → spent energy p < spends → Dec (time energy p ≤ span.first.0 + r) → span.first.0 + (r + 1) ≤ time energy p
        behind p h w (no later) = omega arith
        behind p h w (yes late) = absurd (omega (arith, (noted-least p h (omega (arith, sought.found inside)) late).1))
