-- The search for an entry, or for a sum of two entries, that takes no more than a pair in either figure.
-- In this order: one list; two lists; one level; level by level.
use mathlib.Core.Path.{◌≡◌, refl, sym, ap, ◌∙◌, subst}
use mathlib.Core.Bool.{Bool, true, false}
use mathlib.Core.List.{List}
use Prim.Native.Nat.{ℕ, ◌+◌, ◌-◌, ◌≤◌, ◌<◌}
use native.Mathlib.Decide.{dec_le, ℕ_discrete}
use native.Mathlib.Omega.{arith}
use lib.Dec.{ltb}
use lib.ListN.{get_or}
use borrow.Author.Tests.{ltb-true}
use Rattle.std.specs.Ordering.{is_le, nat_cmp}
use Rattle.std.proofs.lemmas.Bool.Decides.{nat_tests}
use Rattle.paths.specs.Weights.{weights, energy, pair, time, spent}
use Rattle.paths.specs.TradeOff.{IsSum}
use Rattle.lists.specs.Entries.{Weight}
use Rattle.refusals.specs.working.Decides.{Decides}
use Rattle.forest.specs.LabelFile.{count_at, time_at, energy_at}
use Rattle.stored.specs.Stored.{list_at}
use Rattle.stored.specs.working.Formed.{ListFits}
use Rattle.stored.proofs.Tabulate.{Stands, member-stands, tabulate-member}
use Rattle.query.specs.working.AnswerFrom.{EntryOf}
use Rattle.query.specs.working.Levels.{LevelSum}
use Rattle.query.specs.working.Sums.{FittingFrom}
use Rattle.query.proofs.ListPlaces.{entry, energies_rise, times_fall}
use Rattle.query.proofs.Rows.{Along, along-none, along_all}
use Rattle.reaching.specs.working.Searched.{HasWithin, SumUp, CoversAt, NoSum, Tried}

-- false is not true
pub not_both : {A : Type 0} → ◌≡◌ {A = Bool} false true → A
not_both q = let z : ◌≡◌ {A = ℕ} 0 1 = cc in absurd (omega arith)

-- what was found answers yes
pub found_yes : {P : Type 0} → P → Decides P true
found_yes p = record { holds = λ q. p; fails = λ q. not_both (sym q) }

-- what a comparison tells
pub le_decides : {a b : ℕ} {answer : Bool} → answer ≡ is_le (nat_cmp a b) → Decides (a ≤ b) answer
le_decides e = record { holds = λ q. grind (arith, nat_tests); fails = λ q h. grind (arith, nat_tests) }

beyond : {a b : ℕ} → (a ≤ b → ⊥) → b < a
beyond {a} {b} over = which (dec_le a b)
  where
    which : Dec (a ≤ b) → b < a
    which (yes h) = absurd (over h)
    which (no h) = omega arith

-- ---- One list

module _ {labels : List ℕ} {at most_time most_energy j : ℕ} (fits : ListFits labels at) (fitting : FittingFrom labels at 0 most_energy (count_at labels at) j) where
  -- no entry fits: none covers the pair
  pub list-none : j ≤ 0 → Decides (HasWithin (EntryOf (list_at labels at)) (pair most_time most_energy)) (ltb 0 j)
  list-none e =
      record {
        holds = λ q. let some : 0 < j = ltb-true 0 j q in absurd (omega arith);
        fails = λ q some.
            let z = member-stands (entry labels at) (count_at labels at) some.among.member in
            let spends : spent energy some.one ≡ energy_at labels at z.place = ap (spent energy) z.is in
            omega (arith, fitting.over z.place (omega arith) (omega (arith, z.below)), some.no_larger.0);
      }

  -- the last entry that fits has the least time of them
  pub list-decides :
      {last : ℕ} {answer : Bool} → 0 < j → last ≡ time_at labels at (j - 1) → Decides (last ≤ most_time) answer →
      Decides (HasWithin (EntryOf (list_at labels at)) (pair most_time most_energy)) answer
  list-decides {last} {answer} some last-is e =
      record {
        holds = λ q.
            let quick : last ≤ most_time = e.holds q in
            record {
              one = entry labels at (j - 1);
              among = record { member = tabulate-member (entry labels at) (count_at labels at) {i = j - 1} (omega (arith, fitting.in_range)) };
              no_larger = (omega (arith, fitting.fits (omega arith)), omega arith);
            };
        fails = λ q other.
            let late : most_time < last = beyond (e.fails q) in
            let z = member-stands (entry labels at) (count_at labels at) other.among.member in
            let spends : spent energy other.one ≡ energy_at labels at z.place = ap (spent energy) z.is in
            let takes : time energy other.one ≡ time_at labels at z.place = ap (time energy) z.is in
            pick late z.place z.below (omega (arith, other.no_larger.0)) (omega (arith, other.no_larger.1)) (dec_le j z.place);
      }
    where
      pick : most_time < last → (k : ℕ) → k < count_at labels at → energy_at labels at k ≤ most_energy → time_at labels at k ≤ most_time → Dec (j ≤ k) → ⊥
      pick late k below in-energy in_time (yes h) = omega (arith, fitting.over k h (omega arith))
      pick late k below in-energy in_time (no h) = omega (arith, times_fall fits k (j - 1) (omega arith) (omega (arith, fitting.in_range)), last-is)

-- ---- Two lists

-- Of the sums with the near list's first i entries none takes so little; from place j on no entry of the far list fits beside a later one
pub record Pairing (labels : List ℕ) (near far most_time most_energy i j : ℕ) : Type 0 where
  pub in_far : j ≤ count_at labels far
  pub over : (a k : ℕ) → i ≤ a → a < count_at labels near → j ≤ k → k < count_at labels far → most_energy < energy_at labels near a + energy_at labels far k
  pub none : (a k : ℕ) → a < i → k < count_at labels far → time_at labels near a + time_at labels far k ≤ most_time → energy_at labels near a + energy_at labels far k ≤ most_energy → ⊥

-- none is tried yet
pub pairing_start : (labels : List ℕ) (near far most_time most_energy : ℕ) {j : ℕ} → j ≡ count_at labels far → Pairing labels near far most_time most_energy 0 j
pairing_start labels near far most_time most_energy e =
    record { in_far = omega arith; over = λ a k h g m n. absurd (omega arith); none = λ a k h g m n. absurd (omega arith) }

module _ {labels : List ℕ} {near far most_time most_energy i j r beside : ℕ} (near_fits : ListFits labels near) (far_fits : ListFits labels far)
    (now : Pairing labels near far most_time most_energy i j) (h : i < count_at labels near) (beside-is : beside ≡ energy_at labels near i)
    (fitting : FittingFrom labels far beside most_energy j r) where
  -- the entries from r on are over beside entry i
  unfit : (k : ℕ) → r ≤ k → k < count_at labels far → most_energy < energy_at labels near i + energy_at labels far k
  unfit k g m = pick (dec_le j k)
    where
      pick : Dec (j ≤ k) → most_energy < energy_at labels near i + energy_at labels far k
      pick (yes later) = now.over i k (omega arith) (omega arith) later m
      pick (no sooner) = omega (arith, fitting.over k g (omega arith), beside-is)

  -- the last that fits is the quickest, so entry i makes no sum
  pub pairing_more : (CoversAt labels near i far r most_time → ⊥) → Pairing labels near far most_time most_energy (i + 1) r
  pairing_more uncovered =
      record {
        in_far = omega (arith, fitting.in_range, now.in_far);
        over = λ a k g m n o. omega (arith, unfit k n o, energies_rise near_fits i a (omega arith) m);
        none = λ a k g m in_time in-energy. pick a k g m in_time in-energy (ℕ_discrete a i) (dec_le r k);
      }
    where
      slow : 0 < r → most_time < time_at labels near i + time_at labels far (r - 1)
      slow some = which (dec_le (time_at labels near i + time_at labels far (r - 1)) most_time)
        where
          which : Dec (time_at labels near i + time_at labels far (r - 1) ≤ most_time) → most_time < time_at labels near i + time_at labels far (r - 1)
          which (yes quick) = absurd (uncovered (record { some = some; quick = quick }))
          which (no late) = omega arith

      pick :
          (a k : ℕ) → a < i + 1 → k < count_at labels far → time_at labels near a + time_at labels far k ≤ most_time → energy_at labels near a + energy_at labels far k ≤ most_energy →
          Dec (a ≡ i) → Dec (r ≤ k) → ⊥
      pick a k g m in_time in-energy (no apart) d = now.none a k (omega arith) m in_time in-energy
      pick a k g m in_time in-energy (yes same) (yes later) =
          let spends : energy_at labels near i + energy_at labels far k ≤ most_energy = rw same at in-energy in
          omega (arith, unfit k later m)
      pick a k g m in_time in-energy (yes same) (no sooner) =
          let takes : time_at labels near i + time_at labels far k ≤ most_time = rw same at in_time in
          omega (arith, slow (omega arith), times_fall far_fits k (r - 1) (omega arith) (omega (arith, fitting.in_range, now.in_far)))

  -- the sum that covers the pair
  pub covering_sum : CoversAt labels near i far r most_time → HasWithin (IsSum energy (list_at labels near) (list_at labels far)) (pair most_time most_energy)
  covering_sum covers =
      record {
        one = (weights energy).◌⊕◌ (entry labels near i) (entry labels far (r - 1));
        among =
            record {
              left = entry labels near i;
              right = entry labels far (r - 1);
              in_first = tabulate-member (entry labels near) (count_at labels near) {i = i} (omega arith);
              in_second = tabulate-member (entry labels far) (count_at labels far) {i = r - 1} (omega (arith, covers.some, fitting.in_range, now.in_far));
              adds = refl;
            };
        no_larger = (omega (arith, fitting.fits covers.some, beside-is), covers.quick);
      }

-- every near entry was tried
pub pairing_end :
    {labels : List ℕ} {near far most_time most_energy i j : ℕ} → Pairing labels near far most_time most_energy i j → count_at labels near ≤ i →
    NoSum labels near far most_time most_energy
pairing_end now h = record { none = λ a k g m in_time in-energy. now.none a k (omega arith) m in_time in-energy }

module _ {labels : List ℕ} {near far most_time most_energy : ℕ} where
  -- a list without entries makes no sum
  pub no_entries : (0 < count_at labels near → count_at labels far ≤ 0) → NoSum labels near far most_time most_energy
  no_entries lacks = record { none = λ i k h g in_time in-energy. omega (arith, lacks (omega arith)) }

  module _ (near_fits : ListFits labels near) (far_fits : ListFits labels far) where
    -- the first entries have the least energies
    pub least-over :
        {sum : ℕ} → sum ≡ energy_at labels near 0 + energy_at labels far 0 → (sum ≤ most_energy → ⊥) →
        NoSum labels near far most_time most_energy
    least-over {sum} sum_is_lem over =
        let late : most_energy < sum = beyond over in
        record {
          none = λ i k h g in_time in-energy.
              omega (arith, energies_rise near_fits 0 i (omega arith) h, energies_rise far_fits 0 k (omega arith) g);
        }

    -- the last entries have the least times
    pub quickest_late :
        {count others sum : ℕ} → count ≡ count_at labels near → others ≡ count_at labels far →
        sum ≡ time_at labels near (count - 1) + time_at labels far (others - 1) → (sum ≤ most_time → ⊥) → NoSum labels near far most_time most_energy
    quickest_late {count} {others} {sum} count-is others-is sum_is_lem over =
        let late : most_time < sum = beyond over in
        record {
          none = λ i k h g in_time in-energy.
              omega (arith, times_fall near_fits i (count - 1) (omega arith) (omega arith), times_fall far_fits k (others - 1) (omega arith) (omega arith));
        }

-- ---- One level

module _ {labels marks : List ℕ} {level near far most_time most_energy : ℕ} where
  -- there is no sum at a level that is not marked
  pub level-unmarked : (get_or marks level 0 ≡ 1 → ⊥) → Decides (HasWithin (LevelSum labels marks level near far) (pair most_time most_energy)) false
  level-unmarked unmarked = record { holds = λ q. not_both q; fails = λ q z. unmarked z.among.marked }

  -- nor where the lists make none that takes so little
  pub level-none :
      NoSum labels near far most_time most_energy → Decides (HasWithin (LevelSum labels marks level near far) (pair most_time most_energy)) false
  level-none no_sum = record { holds = λ q. not_both q; fails = λ q z. nothing z.one z.among z.no_larger }
    where
      nothing : (q : Weight) → LevelSum labels marks level near far q → (weights energy).◌⊑◌ q (pair most_time most_energy) → ⊥
      nothing q here small =
          let time_of_first : time energy here.sum.left ≡ time_at labels near one.place = ap (time energy) one.is in
          let energy_of_first : spent energy here.sum.left ≡ energy_at labels near one.place = ap (spent energy) one.is in
          let second_time : time energy here.sum.right ≡ time_at labels far two.place = ap (time energy) two.is in
          let second_energy : spent energy here.sum.right ≡ energy_at labels far two.place = ap (spent energy) two.is in
          let sum-time : time energy here.sum.left + time energy here.sum.right ≡ time energy q = ap (time energy) here.sum.adds in
          let sum-energy : spent energy here.sum.left + spent energy here.sum.right ≡ spent energy q = ap (spent energy) here.sum.adds in
          no_sum.none one.place two.place one.below two.below (omega (arith, small.1)) (omega (arith, small.0))
        where
          one : Stands (entry labels near) (count_at labels near) here.sum.left
          one = member-stands (entry labels near) (count_at labels near) here.sum.in_first

          two : Stands (entry labels far) (count_at labels far) here.sum.right
          two = member-stands (entry labels far) (count_at labels far) here.sum.in_second

  -- none is tried where no sum covers the pair
  pub tried-none :
      Decides (HasWithin (LevelSum labels marks level near far) (pair most_time most_energy)) false →
      Tried labels marks level near far (pair most_time most_energy) 0
  tried-none nothing = record { marked = λ h. absurd (omega arith); few = omega arith; others = λ h. nothing.fails refl }

  -- a level whose entries were all tried
  pub level_tried :
      {i j count : ℕ} → Pairing labels near far most_time most_energy i j → count ≤ i → Tried labels marks level near far (pair most_time most_energy) count →
      HasWithin (LevelSum labels marks level near far) (pair most_time most_energy) → ⊥
  level_tried {i} {j} {count} now h tried z = pick (dec_le (count_at labels near) count)
    where
      pick : Dec (count_at labels near ≤ count) → ⊥
      pick (yes all) = (level-none (pairing_end now (omega arith))).fails refl z
      pick (no fewer) = tried.others (omega arith) z

  -- a sum at a marked level
  pub level-found :
      get_or marks level 0 ≡ 1 → HasWithin (IsSum energy (list_at labels near) (list_at labels far)) (pair most_time most_energy) →
      Decides (HasWithin (LevelSum labels marks level near far) (pair most_time most_energy)) true
  level-found marked z = found_yes (record { one = z.one; among = record { marked = marked; sum = z.among }; no_larger = z.no_larger })

-- ---- Level by level

-- At the marked levels that are done no sum takes so little, and the places stand at the lists of the next level up
pub record LevelSearch (labels marks : List ℕ) (near far levels most_time most_energy done n f : ℕ) : Type 0 where
  pub along : Along labels near far levels done n f
  pub none : HasWithin (SumUp labels marks near far levels done) (pair most_time most_energy) → ⊥

-- no level is searched yet
pub levels_start : {labels marks : List ℕ} {near far levels most_time most_energy done : ℕ} → done ≡ 0 → LevelSearch labels marks near far levels most_time most_energy done near far
levels_start {labels} {marks} {near} {far} {levels} none =
    rw none (record { along = along-none labels near far levels; none = λ z. omega (arith, z.among.below) })

module _ {labels marks : List ℕ} {near far levels most_time most_energy done n f level : ℕ}
    (now : LevelSearch labels marks near far levels most_time most_energy done n f) (level-is : level ≡ levels - done - 1) where
  -- a level without such a sum
  pub levels_more :
      {n' f' : ℕ} → Along labels near far levels (done + 1) n' f' → (HasWithin (LevelSum labels marks level n f) (pair most_time most_energy) → ⊥) →
      LevelSearch labels marks near far levels most_time most_energy (done + 1) n' f'
  levels_more along nothing = record { along = along; none = λ z. pick z (ℕ_discrete z.among.up done) }
    where
      pick : (z : HasWithin (SumUp labels marks near far levels (done + 1)) (pair most_time most_energy)) → Dec (z.among.up ≡ done) → ⊥
      pick z (yes same) =
          nothing
          (record {
            one = z.one;
            among = rw (level-is, now.along.near_is, now.along.far_is) (rw same at z.among.here);
            no_larger = z.no_larger;
          })
      pick z (no apart) =
          now.none
          (record {
            one = z.one;
            among = record { up = z.among.up; below = omega (arith, z.among.below); here = z.among.here };
            no_larger = z.no_larger;
          })

  -- a sum at this level
  pub levels_found :
      done < levels → HasWithin (LevelSum labels marks level n f) (pair most_time most_energy) →
      Decides (HasWithin (SumUp labels marks near far levels levels) (pair most_time most_energy)) true
  levels_found turn z =
      found_yes
      (record {
        one = z.one;
        among = record { up = done; below = turn; here = rw (level-is, now.along.near_is, now.along.far_is) at z.among };
        no_larger = z.no_larger;
      })

-- no level is left, and nothing was found
pub levels_end :
    {labels marks : List ℕ} {near far levels most_time most_energy done n f : ℕ} {found : Bool} → LevelSearch labels marks near far levels most_time most_energy done n f →
    levels ≤ done → found ≡ false → Decides (HasWithin (SumUp labels marks near far levels levels) (pair most_time most_energy)) found
levels_end {labels} {marks} {near} {far} {levels} {most_time} {most_energy} now h e =
    record {
      holds = λ q. not_both (sym e ∙ q);
      fails = λ q z. subst (λ d. HasWithin (SumUp labels marks near far levels d) (pair most_time most_energy) → ⊥) (along_all now.along h) now.none z;
    }
