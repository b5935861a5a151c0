-- A list in order, taken entry by entry from its last one: the last entry below a bound, then the last below that entry's energy, and
-- so on until none is left; and slices that are filled with it so, from place length − 1 down to 0.
-- In this order: places of an ordered list; how many entries lie below a bound; slices filled from a place on; counting; filling.
use mathlib.Core.Path.{◌≡◌, refl, sym, ap, ◌∙◌}
use mathlib.Core.List.{List, [], ◌∷◌, ◌++◌, Memᴰ}
use Prim.Native.Nat.{ℕ, zero, suc, ◌+◌, ◌-◌, ◌≤◌, ◌<◌}
use native.Mathlib.Decide.{dec_le, ℕ_discrete}
use native.Mathlib.Omega.{arith}
use lib.ListN.{length, get_or, take, drop, set, length-append, length-set, length-map, get_or-map, take-append-drop}
use lib.Seq.{take-suc, drop-cons, drop-length, append_snoc, set_at, length-take-le, get_or-append_seam}
use Rattle.paths.specs.Weights.{energy, pair, time, spent, Within}
use Rattle.paths.specs.TradeOff.{Ordered}
use Rattle.paths.proofs.OneLimit.{LastWithin, ordered-head, ordered_tail}
use Rattle.refusals.specs.Lent.{filled}
use Rattle.lists.specs.Entries.{Weight, times, energies}

-- ---- Places of an ordered list

-- the entry at place i
abbrev entry : List Weight → ℕ → Weight
entry l i = get_or l i (pair 0 0)

-- what stands at a place is a member
entry-member : (l : List Weight) (i : ℕ) → i < length l → Memᴰ (entry l i) l
entry-member [] i h = absurd (omega arith)
entry-member (p ∷ l) zero h = Memᴰ.head refl
entry-member (p ∷ l) (suc i) h = Memᴰ.tail (entry-member l i (omega arith))

-- the slices of a list have the two figures of the entry at each place
energy_at_lem : (l : List Weight) (i : ℕ) → get_or (energies l) i 0 ≡ spent energy (entry l i)
energy_at_lem l i = get_or-map (spent energy) l i (pair 0 0)

time_at_lem : (l : List Weight) (i : ℕ) → get_or (times l) i 0 ≡ time energy (entry l i)
time_at_lem l i = get_or-map (time energy) l i (pair 0 0)

-- energies rise from each place to any later one
rises_far : (l : List Weight) → Ordered l → (i j : ℕ) → i < j → j < length l → spent energy (entry l i) < spent energy (entry l j)
rises_far [] o i j h k = absurd (omega arith)
rises_far (p ∷ l) o i zero h k = absurd (omega arith)
rises_far (p ∷ l) o zero (suc j) h k = (ordered-head o (entry-member l j (omega arith))).0
rises_far (p ∷ l) o (suc i) (suc j) h k = rises_far l (ordered_tail o) i j (omega arith) (omega arith)

-- where a list is cut at p, p stands behind what is before it
cut_place : {l : List Weight} (before : List Weight) {p : Weight} (after : List Weight) → l ≡ before ++ (p ∷ after) → entry l (length before) ≡ p
cut_place before {p} after e = rw e (get_or-append_seam before p after (pair 0 0))

-- and what stands behind p comes after it
cut_beyond :
    (before : List Weight) (p : Weight) (after : List Weight) (P : Weight → Type 0) →
    ((q : Weight) → Memᴰ q after → P q) →
    (j : ℕ) →
    length before < j →
    j < length (before ++ (p ∷ after)) →
    P (entry (before ++ (p ∷ after)) j)
cut_beyond before p after P all zero h k = absurd (omega arith)
cut_beyond [] p after P all (suc j) h k = all _ (entry-member after j (omega arith))
cut_beyond (x ∷ before) p after P all (suc j) h k = cut_beyond before p after P all j (omega arith) (omega arith)

-- ---- How many entries lie below a bound

-- the first entries, as many as `count`, have energy below the bound; the others have not
pub record FirstBelow (l : List Weight) (bound count : ℕ) : Type 0 where
  pub in_list : count ≤ length l
  pub below : (i : ℕ) → i < count → spent energy (entry l i) < bound
  pub beyond : (i : ℕ) → count ≤ i → i < length l → bound ≤ spent energy (entry l i)

-- what is left below a bound when the last entry there, p, is taken
pub record Taken (l : List Weight) (count : ℕ) (p : Weight) : Type 0 where
  pub some : 0 < count
  pub time-there : get_or (times l) (count - 1) 0 ≡ time energy p
  pub energy-there : get_or (energies l) (count - 1) 0 ≡ spent energy p
  pub less : FirstBelow l (spent energy p) (count - 1)

-- where every entry has energy below the bound, all are left
pub below_all : {l : List Weight} {bound : ℕ} → ((p : Weight) → Memᴰ p l → spent energy p < bound) → FirstBelow l bound (length l)
below_all {l} all =
    record { in_list = omega arith; below = λ i h. all _ (entry-member l i h); beyond = λ i h k. absurd (omega arith) }

module _ {l : List Weight} {bound count : ℕ} (left : FirstBelow l bound count) where
  -- an entry that is left has energy below the bound
  pub below-some : 0 < count → 0 < bound
  below-some h = omega (arith, left.below 0 h)

  -- no entry below the bound, none left
  pub below_none : 0 < bound → ((q : Weight) → Memᴰ q l → Within energy (bound - 1) q → ⊥) → count ≡ 0
  below_none h nothing = pick (dec_le count 0)
    where
      pick : Dec (count ≤ 0) → count ≡ 0
      pick (yes e) = omega arith
      pick (no some) =
          let z = left.in_list in
          absurd (nothing (entry l 0) (entry-member l 0 (omega arith)) (omega (arith, left.below 0 (omega arith))))

  -- The last entry below the bound stands last of those that are left
  pub below_next : {p : Weight} → Ordered l → 0 < bound → LastWithin l (bound - 1) p → Taken l count p
  below_next {p} ordered h last =
      record {
        some = omega (arith, one_more);
        time-there = rw same_place (time_at_lem l place ∙ ap (time energy) there);
        energy-there = rw same_place (energy_at_lem l place ∙ ap (spent energy) there);
        less =
            record {
              in_list = omega (arith, left.in_list);
              below = λ i k. rw there at (rises_far l ordered i place (omega (arith, same_place)) in_list);
              beyond = λ i k m. later i (omega (arith, same_place)) m (ℕ_discrete i place);
            };
      }
    where
      place : ℕ
      place = length last.before

      there : entry l place ≡ p
      there = cut_place last.before last.after last.splits

      in_list : place < length l
      in_list = omega (arith, simp length-append at (ap length last.splits))

      within : spent energy (entry l place) ≤ bound - 1
      within = rw there last.within

      -- the place after it is beyond the bound
      over : (j : ℕ) → place < j → j < length l → spent energy (entry l j) ≤ bound - 1 → ⊥
      over j k m = rw last.splits (cut_beyond last.before p last.after (λ q. Within energy (bound - 1) q → ⊥) last.beyond j k (rw last.splits at m))

      one_more : count ≡ suc place
      one_more = pick (dec_le count place) (dec_le count (suc place))
        where
          pick : Dec (count ≤ place) → Dec (count ≤ suc place) → count ≡ suc place
          pick (yes k) m = absurd (omega (arith, left.beyond place k in_list, within))
          pick (no k) (yes m) = omega arith
          pick (no k) (no m) = absurd (over (suc place) (omega arith) (omega (arith, left.in_list)) (omega (arith, left.below (suc place) (omega arith))))

      same_place : count - 1 ≡ place
      same_place = omega (arith, one_more)

      -- p has the least energy from its place on
      later : (i : ℕ) → place ≤ i → i < length l → Dec (i ≡ place) → spent energy p ≤ spent energy (entry l i)
      later i k m (yes e) = omega (arith, ap (λ j. spent energy (entry l j)) e, ap (spent energy) there)
      later i k m (no apart) = omega (arith, rises_far l ordered place i (omega arith) m, ap (spent energy) there)

-- ---- Slices filled from a place on

-- a lent slice once its places from `place` on hold those of `new`
pub record FilledFrom (old new : List ℕ) (place : ℕ) (held : List ℕ) : Type 0 where
  pub room : length new ≤ length old
  pub in_new : place ≤ length new
  pub long : length held ≡ length old
  pub holds : held ≡ take place old ++ (drop place new ++ drop (length new) old)

-- a store in front of what a slice holds behind its first places
put_before : (old : List ℕ) (j : ℕ) (v : ℕ) (rest : List ℕ) → j < length old → set (take (suc j) old ++ rest) j v ≡ take j old ++ (v ∷ rest)
put_before old j v rest h =
    rw (take-suc old j 0, append_snoc) (set_at (take j old) (get_or old j 0) rest v j (length-take-le j old (omega arith)))

-- nothing is filled yet
pub filled-start : (old new : List ℕ) → length new ≤ length old → FilledFrom old new (length new) old
filled-start old new room =
    record {
      room = room;
      in_new = omega arith;
      long = refl;
      holds = sym (rw (drop-length new) (take-append-drop (length new) old));
    }

-- the next place gets what `new` has there
put_next : {old new held : List ℕ} (j : ℕ) → FilledFrom old new (suc j) held → FilledFrom old new j (set held j (get_or new j 0))
put_next {old} {new} {held} j f =
    record {
      room = f.room;
      in_new = omega (arith, f.in_new);
      long = simp length-set f.long;
      holds = rw (f.holds, drop-cons new j 0 f.in_new) (put_before old j (get_or new j 0) _ (omega (arith, f.room, f.in_new)));
    }

-- the same for a place that is not 0, with the value under a name of its own
pub filled_more :
    {old new held : List ℕ} {place v : ℕ} → 0 < place → FilledFrom old new place held → get_or new (place - 1) 0 ≡ v →
    FilledFrom old new (place - 1) (set held (place - 1) v)
filled_more {place = zero} h f e = absurd (omega arith)
filled_more {place = suc j} h f e = rw (← e, at_j) (put_next j f)
  where
    at_j : suc j - 1 ≡ j
    at_j = omega arith

-- all places are filled
pub filled_end : {old new held : List ℕ} {place : ℕ} → place ≤ 0 → FilledFrom old new place held → held ≡ filled old new
unfolding filled
filled_end {place = zero} h f = f.holds
filled_end {place = suc place} h f = absurd (omega arith)

-- ---- Counting a list from its last entry

-- `count` entries have energy at or above the bound, and all others below it
pub record Counting (l : List Weight) (count bound : ℕ) : Type 0 where
  pub counted : count ≤ length l
  pub left : FirstBelow l bound (length l - count)

-- where every entry has energy below the bound, none is counted
pub counting-start : {l : List Weight} {bound : ℕ} → ((p : Weight) → Memᴰ p l → spent energy p < bound) → Counting l 0 bound
counting-start {l} {bound} all = record { counted = omega arith; left = rw none_yet (below_all all) }
  where
    none_yet : length l - 0 ≡ length l
    none_yet = omega arith

module _ {l : List Weight} {count bound : ℕ} (now : Counting l count bound) where
  -- the last entry below the bound is counted, and its energy is the next bound
  pub counting_more :
      {p : Weight} → Ordered l → 0 < bound → LastWithin l (bound - 1) p → Counting l (count + 1) (spent energy p)
  counting_more {p} ordered h last =
      let next = below_next now.left ordered h last in
      record { counted = omega (arith, next.some); left = rw one_less next.less }
    where
      one_less : length l - (count + 1) ≡ (length l - count) - 1
      one_less = omega arith

  -- no entry is left below the bound, or the bound is 0: all are counted
  pub counting-none : 0 < bound → ((q : Weight) → Memᴰ q l → Within energy (bound - 1) q → ⊥) → count ≡ length l
  counting-none h nothing = omega (arith, below_none now.left h nothing, now.counted)

  pub counting_end : bound ≤ 0 → count ≡ length l
  counting_end h = pick (dec_le (length l - count) 0)
    where
      pick : Dec (length l - count ≤ 0) → count ≡ length l
      pick (yes k) = omega (arith, now.counted)
      pick (no some) = absurd (omega (arith, below-some now.left (omega arith)))

-- ---- Filling two slices with a list, from its last entry

-- `place` entries have energy below the bound, and the slices hold the others from that place on
pub record Filling (l : List Weight) (out_times out_energies : List ℕ) (bound place : ℕ) (now_times now_energies : List ℕ) : Type 0 where
  pub left : FirstBelow l bound place
  pub times-held : FilledFrom out_times (times l) place now_times
  pub energies-held : FilledFrom out_energies (energies l) place now_energies

module _ (l : List Weight) {out_times out_energies : List ℕ} where
  -- nothing is filled yet, and every entry has energy below the bound
  pub filling-start :
      {bound place : ℕ} → ((p : Weight) → Memᴰ p l → spent energy p < bound) → place ≡ length l → place ≤ length out_times →
      place ≤ length out_energies → Filling l out_times out_energies bound place out_times out_energies
  filling-start all e h k = rw e (
      record {
        left = below_all all;
        times-held = rw (sym (length-map l (time energy))) (filled-start out_times (times l) (simp length-map (omega arith)));
        energies-held = rw (sym (length-map l (spent energy))) (filled-start out_energies (energies l) (simp length-map (omega arith)));
      })

  -- the last entry below the bound goes to the place before, and its energy is the next bound
  pub filling-more :
      {bound place : ℕ} {now_times now_energies : List ℕ} {p : Weight} → Filling l out_times out_energies bound place now_times now_energies →
      Ordered l → 0 < bound → LastWithin l (bound - 1) p →
      Filling l out_times out_energies (spent energy p) (place - 1) (set now_times (place - 1) (time energy p)) (set now_energies (place - 1) (spent energy p))
  filling-more now ordered h last =
      let next = below_next now.left ordered h last in
      record {
        left = next.less;
        times-held = filled_more next.some now.times-held next.time-there;
        energies-held = filled_more next.some now.energies-held next.energy-there;
      }
