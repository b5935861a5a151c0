-- The sums of two lists noted, one near entry after the other. In this order: the sums of one entry; the sums of all.
use mathlib.Core.Path.{◌≡◌, refl, ap, ◌∙◌}
use mathlib.Core.Logic.{◌⊎◌, inl, inr}
use mathlib.Core.List.{List}
use Prim.Native.Nat.{ℕ, ◌+◌, ◌-◌, ◌≤◌, ◌<◌}
use native.Mathlib.Decide.{ℕ_discrete, dec_le}
use native.Mathlib.Omega.{arith}
use lib.ListN.{length}
use Rattle.paths.specs.Weights.{energy, pair, time, spent}
use Rattle.lists.specs.Entries.{Weight}
use Rattle.spans.specs.working.Noting.{span_seconds, EntrySum, SumOf, PairWithin, NoneBefore, LoweredAt, Lowered}
use Rattle.spans.proofs.NotingLaws.{lowered_one, lowered_none, lowered-same, SetParts, lowered_then}

-- ---- The sums of one entry

-- The sums with the far entries from place j on are noted
pub record EntryNoted (sums : ℕ → Weight) (end first : ℕ) (before : List ℕ) (j : ℕ) (after : List ℕ) : Type 0 where
  pub in_range : j ≤ end
  pub so_far : Lowered (EntrySum sums j end) first before after

-- none at first
pub entry-none : (sums : ℕ → Weight) (end first : ℕ) {leasts : List ℕ} → length leasts ≡ span_seconds → EntryNoted sums end first leasts end leasts
entry-none sums end first long =
    record { in_range = omega arith; so_far = lowered_none long (λ p h. omega (arith, h.not_before, h.below)) }

module _ {sums : ℕ → Weight} where
  entry_parts : {j end : ℕ} → 0 < j → j ≤ end → SetParts (EntrySum sums (j - 1) end) (EntrySum sums j end) (EntrySum sums (j - 1) j)
  entry_parts {j} {end} some inside =
      record {
        cases = λ p h. pick p h (dec_le j h.at);
        first_part = λ p h. record { at = h.at; not_before = omega (arith, h.not_before); below = h.below; adds = h.adds };
        second_part = λ p h. record { at = h.at; not_before = h.not_before; below = omega (arith, h.below); adds = h.adds };
      }
    where
      pick : (p : Weight) (h : EntrySum sums (j - 1) end p) → Dec (j ≤ h.at) → EntrySum sums j end p ⊎ EntrySum sums (j - 1) j p
      pick p h (yes behind) = inl (record { at = h.at; not_before = behind; below = h.below; adds = h.adds })
      pick p h (no before) = inr (record { at = h.at; not_before = h.not_before; below = omega arith; adds = h.adds })

  module _ {end first j : ℕ} {before after : List ℕ} (now : EntryNoted sums end first before j after) where
    -- all are noted
    pub entry_all : j ≤ 0 → Lowered (EntrySum sums 0 end) first before after
    entry_all h =
        lowered-same
        (λ p z. record { at = z.at; not_before = omega arith; below = z.below; adds = z.adds })
        (λ k e m z. record { at = z.at; not_before = omega arith; below = z.below; adds = z.adds })
        now.so_far

    module _ (some : 0 < j) {takes : ℕ} (time_is : takes ≡ time energy (sums (j - 1))) where
      -- no sum takes less than the first second
      pub entry-later : NoneBefore (EntrySum sums 0 end) first → first ≤ takes
      entry-later none =
          omega (
            arith,
            time_is,
            none.later (sums (j - 1)) (record { at = j - 1; not_before = omega arith; below = omega (arith, now.in_range); adds = refl }),
          )

      module _ {second : ℕ} (behind : second ≡ takes - first) (later : first ≤ takes) where
        -- the entry before is noted too
        pub entry_more :
            {spends : ℕ} {lower : List ℕ} → spends ≡ spent energy (sums (j - 1)) → second < span_seconds → LoweredAt second spends after lower →
            EntryNoted sums end first before (j - 1) lower
        entry_more {spends} {lower} energy_is inside one =
            record {
              in_range = omega (arith, now.in_range);
              so_far = lowered_then (entry_parts some now.in_range) now.so_far (lowered_one now.so_far.long inside one has only);
            }
          where
            has : EntrySum sums (j - 1) j (pair (first + second) spends)
            has =
                let t : first + second ≡ time energy (sums (j - 1)) = omega (arith, behind, time_is) in
                record { at = j - 1; not_before = omega arith; below = omega arith; adds = λ n. pair (t n) (energy_is n) }

            only : (k e : ℕ) → EntrySum sums (j - 1) j (pair (first + k) e) → (k ≡ second) × (e ≡ spends)
            only k e h =
                let at : h.at ≡ j - 1 = omega (arith, h.not_before, h.below) in
                let adds : pair (first + k) e ≡ sums (j - 1) = h.adds ∙ ap sums at in
                (omega (arith, ap (time energy) adds, behind, time_is), omega (arith, ap (spent energy) adds, energy_is))

        -- it stands behind the span, and so do those before it, which take longer
        pub entry-beyond :
            ((a b : ℕ) → a ≤ b → b < end → time energy (sums b) ≤ time energy (sums a)) → span_seconds ≤ second → Lowered (EntrySum sums 0 end) first before after
        entry-beyond falls beyond =
            lowered-same
            (λ p z. record { at = z.at; not_before = omega arith; below = z.below; adds = z.adds })
            (λ k e h z. record { at = z.at; not_before = pick k e h z (dec_le j z.at); below = z.below; adds = z.adds })
            now.so_far
          where
            pick : (k e : ℕ) → k < span_seconds → (z : EntrySum sums 0 end (pair (first + k) e)) → Dec (j ≤ z.at) → j ≤ z.at
            pick k e h z (yes m) = m
            pick k e h z (no m) =
                absurd (omega (arith, ap (time energy) z.adds, behind, time_is, falls z.at (j - 1) (omega arith) (omega (arith, now.in_range))))

-- ---- The sums of all entries

-- A later near entry has sums of no less energy, and so has a later far one
pub record EnergiesRise (sums : ℕ → ℕ → Weight) (near far : ℕ) : Type 0 where
  pub near_rise : (a b j : ℕ) → a ≤ b → b < near → spent energy (sums a j) ≤ spent energy (sums b j)
  pub far_rise : (i a b : ℕ) → a ≤ b → b < far → spent energy (sums i a) ≤ spent energy (sums i b)

-- Of the first `from` sums of an entry those before place r are within the limit, up to the last of them
pub record FittingSums (sums : ℕ → Weight) (limit from r : ℕ) : Type 0 where
  pub in_range : r ≤ from
  pub over : (k : ℕ) → r ≤ k → k < from → limit < spent energy (sums k)
  pub fits : 0 < r → spent energy (sums (r - 1)) ≤ limit

-- The sums of the first i near entries are noted, and beside a later one no far entry from place j on fits
pub record SumsNoted (sums : ℕ → ℕ → Weight) (near far limit first : ℕ) (before : List ℕ) (i j : ℕ) (after : List ℕ) : Type 0 where
  pub in_near : i ≤ near
  pub in_far : j ≤ far
  pub over : (a b : ℕ) → i ≤ a → a < near → j ≤ b → b < far → limit < spent energy (sums a b)
  pub so_far : Lowered (PairWithin (SumOf sums i far) limit) first before after

-- none at first
pub sums_none :
    (sums : ℕ → ℕ → Weight) (near far limit first : ℕ) {j : ℕ} {leasts : List ℕ} → length leasts ≡ span_seconds → j ≡ far →
    SumsNoted sums near far limit first leasts 0 j leasts
sums_none sums near far limit first long e =
    record {
      in_near = omega arith;
      in_far = omega arith;
      over = λ a b h g m n. absurd (omega arith);
      so_far = lowered_none long (λ p h. omega (arith, h.has.in_near));
    }

-- a sum of the first entries is one of more
sums-more : {sums : ℕ → ℕ → Weight} {i n far limit : ℕ} → i ≤ n → (p : Weight) → PairWithin (SumOf sums i far) limit p → PairWithin (SumOf sums n far) limit p
sums-more h p m =
    record {
      has = record { i = m.has.i; j = m.has.j; in_near = omega (arith, m.has.in_near); in_far = m.has.in_far; adds = m.has.adds };
      within = m.within;
    }

module _ {sums : ℕ → ℕ → Weight} {near far limit first i j : ℕ} {before after : List ℕ} (now : SumsNoted sums near far limit first before i j after) where
  -- beside the near entries that are left no far entry fits
  sums_done :
      ((a b : ℕ) → i ≤ a → a < near → b < far → limit < spent energy (sums a b)) → Lowered (PairWithin (SumOf sums near far) limit) first before after
  sums_done rest = lowered-same (sums-more now.in_near) (λ k e h m. back k e m (dec_le i m.has.i)) now.so_far
    where
      back :
          (k e : ℕ) (m : PairWithin (SumOf sums near far) limit (pair (first + k) e)) → Dec (i ≤ m.has.i) →
          PairWithin (SumOf sums i far) limit (pair (first + k) e)
      back k e m (yes later) =
          absurd (omega (arith, m.within, ap (spent energy) m.has.adds, rest m.has.i m.has.j later m.has.in_near m.has.in_far))
      back k e m (no earlier) =
          record {
            has = record { i = m.has.i; j = m.has.j; in_near = omega arith; in_far = m.has.in_far; adds = m.has.adds };
            within = m.within;
          }

  -- there is no near entry more
  pub sums_all : near ≤ i → Lowered (PairWithin (SumOf sums near far) limit) first before after
  sums_all h = sums_done (λ a b g m n. absurd (omega arith))

  module _ (rise : EnergiesRise sums near far) (turn : i < near) {r : ℕ} (fitting : FittingSums (sums i) limit j r) where
    -- beside entry i and what is behind it nothing fits from place r on
    sums-over : (a b : ℕ) → i ≤ a → a < near → r ≤ b → b < far → limit < spent energy (sums a b)
    sums-over a b h g m n = pick (dec_le j b)
      where
        pick : Dec (j ≤ b) → limit < spent energy (sums a b)
        pick (yes behind) = now.over a b h g behind n
        pick (no earlier) = omega (arith, fitting.over b m (omega arith), rise.near_rise i a b h g)

    -- nothing fits
    pub sums_unfit : r ≡ 0 → Lowered (PairWithin (SumOf sums near far) limit) first before after
    sums_unfit e = sums_done (λ a b h g m. sums-over a b h g (omega arith) m)

    -- the first far entries fit
    sums_fit : (b : ℕ) → b < r → spent energy (sums i b) ≤ limit
    sums_fit b h =
        omega (arith, fitting.fits (omega arith), rise.far_rise i b (r - 1) (omega arith) (omega (arith, fitting.in_range, now.in_far)))

    pub sums_end : r ≤ far
    sums_end = omega (arith, fitting.in_range, now.in_far)

    -- the sum of entry i and such an entry is one within the limit
    sums-within : {low : ℕ} (p : Weight) → EntrySum (sums i) low r p → PairWithin (SumOf sums (i + 1) far) limit p
    sums-within p h =
        record {
          has = record { i = i; j = h.at; in_near = omega arith; in_far = omega (arith, h.below, sums_end); adds = h.adds };
          within = omega (arith, ap (spent energy) h.adds, sums_fit h.at h.below);
        }

    pub sums-later : NoneBefore (PairWithin (SumOf sums near far) limit) first → NoneBefore (EntrySum (sums i) 0 r) first
    sums-later none = record { later = λ p h. none.later p (sums-more (omega arith) p (sums-within p h)) }

    -- entry i is noted too
    pub sums_next : {lower : List ℕ} → Lowered (EntrySum (sums i) 0 r) first after lower → SumsNoted sums near far limit first before (i + 1) r lower
    sums_next here =
        record {
          in_near = omega arith;
          in_far = sums_end;
          over = λ a b h g m n. sums-over a b (omega arith) g m n;
          so_far = lowered_then (record { cases = cases; first_part = sums-more (omega arith); second_part = sums-within }) now.so_far here;
        }
      where
        cases : (p : Weight) → PairWithin (SumOf sums (i + 1) far) limit p → PairWithin (SumOf sums i far) limit p ⊎ EntrySum (sums i) 0 r p
        cases p h = pick (ℕ_discrete h.has.i i) (dec_le r h.has.j)
          where
            adds : h.has.i ≡ i → p ≡ sums i h.has.j
            adds e = h.has.adds ∙ ap (λ a. sums a h.has.j) e

            pick : Dec (h.has.i ≡ i) → Dec (r ≤ h.has.j) → PairWithin (SumOf sums i far) limit p ⊎ EntrySum (sums i) 0 r p
            pick (yes e) (yes behind) =
                absurd (omega (arith, h.within, ap (spent energy) (adds e), sums-over i h.has.j (omega arith) turn behind h.has.in_far))
            pick (yes e) (no earlier) = inr (record { at = h.has.j; not_before = omega arith; below = omega arith; adds = adds e })
            pick (no apart) d =
                inl (record {
                  has =
                      record { i = h.has.i; j = h.has.j; in_near = omega (arith, h.has.in_near); in_far = h.has.in_far; adds = h.has.adds };
                  within = h.within;
                })
