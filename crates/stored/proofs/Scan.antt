-- Passing over lists: the laws of the two loops. In this order: the lists of one junction; the lists of all.
use Rattle.std.specs.Prelude.{Result, Ok, Err}
use mathlib.Core.Path.{◌≡◌, refl, sym, ap, subst, ◌∙◌}
use mathlib.Core.List.{List}
use Prim.Native.Nat.{ℕ, ◌+◌, ◌-◌, ◌≤◌, ◌<◌}
use native.Mathlib.Omega.{arith}
use native.Mathlib.Nat.{add-zero}
use native.Mathlib.Decide.{ℕ_discrete}
use lib.ListN.{length, get_or, set, length-set}
use lib.Seq.{get_or-set_same, get_or-set_other}
use Rattle.refusals.specs.Order.{decided, first_fault}
use Rattle.refusals.proofs.Order.{decided-more, faults_from, fault-next, fault-here, fault_end}
use Rattle.tables.specs.working.Layout.{starts_from, table_places}
use Rattle.network.specs.NetworkFile.{junctions_of}
use Rattle.forest.specs.LabelFile.{lists_from, count_at, list_end}
use Rattle.forest.specs.Forest.{depth_of}
use Rattle.stored.specs.Stored.{lists_before, lists_of, place_of, entries_before}
use Rattle.stored.specs.working.Formed.{start_of}
use Rattle.stored.specs.declared.refusal.LabelRefusal.{LabelRefusal}
use Rattle.stored.specs.declared.stored.Scanned.{Scanned}
use Rattle.stored.specs.Refusal.{refusal_number}
use Rattle.stored.specs.ListForm.{list_number, lists_number}
use Rattle.forest.specs.working.Fits.{ParentsFit, DepthsFilled}
use Rattle.stored.specs.working.Scanned.{further, ScannedSome, PassedSome, ScannedAll}
use Rattle.stored.proofs.Faults.{faults_joined, faults_moved, fault-behind}
use Rattle.stored.proofs.Refusals.{refuses}
use Rattle.stored.proofs.Lists.{list-fits}
use Rattle.stored.proofs.Places.{list-takes, further-none, further-next, further_add, further-later, further-place, lists_before-next, lists_of_junction, place_counts}

-- ---- The lists of one junction

-- the number of the list i further than the one at byte `at`
abbrev number_further : List ℕ → ℕ → ℕ → ℕ
number_further labels at i = list_number labels (further labels at i)

-- a list without fault stands whole in the file
pub list-stands : (labels : List ℕ) (here : ℕ) → 0 ≡ list_number labels here → here + 2 ≤ length labels
list-stands labels here e = omega (arith, list-takes labels here, (list-fits labels here (sym e)).inside)

module _ (labels : List ℕ) (at lists total : ℕ) where
  -- before the first list
  pub passed_none : at ≤ length labels → PassedSome labels at lists total 0 at total
  unfolding first_fault
  passed_none inside =
      record {
        few = omega arith;
        none = refl;
        place = sym (further-none labels at);
        inside = inside;
        counted = omega arith;
      }

  module _ {k here sum : ℕ} (run : PassedSome labels at lists total k here sum) where
    -- the lists behind those that are passed decide
    behind-decide : first_fault (number_further labels at) 0 lists ≡ faults_from (number_further labels at) lists k
    behind-decide = fault-behind (number_further labels at) run.few run.none

    -- a list with a fault refuses
    pub passed-fault : {number : ℕ} → k < lists → number ≡ list_number labels here → (number ≡ 0 → ⊥) → number ≡ first_fault (number_further labels at) 0 lists
    passed-fault {number} h e apart = number_is ∙ sym (behind-decide ∙ fault-here (number_further labels at) h (λ z. apart (number_is ∙ z)))
      where
        number_is : number ≡ list_number labels (further labels at k)
        number_is = e ∙ ap (list_number labels) run.place

    -- a list without fault is passed
    pub passed-more :
        {count next : ℕ} → k < lists → 0 ≡ list_number labels here → count ≡ count_at labels here → next ≡ list_end labels here →
        PassedSome labels at lists total (k + 1) next (sum + count)
    unfolding list_end
    passed-more h e is-count is-next =
        record {
          few = omega arith;
          none = all_behind ∙ fault-next (number_further labels at) {n = k + 1} (omega arith) fits ∙ fault_end (number_further labels at) {n = k + 1} (omega arith);
          place = is-next ∙ ap (list_end labels) run.place ∙ sym (further-next labels at k);
          inside = omega (arith, (list-fits labels here (sym e)).inside);
          counted = omega (arith, run.counted);
        }
      where
        fits : number_further labels at k ≡ 0
        fits = ap (list_number labels) (sym run.place) ∙ sym e

        all_behind : first_fault (number_further labels at) 0 (k + 1) ≡ faults_from (number_further labels at) (k + 1) k
        all_behind = fault-behind (number_further labels at) (omega arith) run.none

    -- all are passed
    pub passed_all : lists ≤ k → PassedSome labels at lists total lists here sum
    passed_all h = let e : k ≡ lists = omega (arith, run.few) in subst (λ n. PassedSome labels at lists total n here sum) e run

    -- the entries counted are no more than the bytes, if they were so before
    pub passed_counts : total ≤ at → sum ≤ here
    passed_counts h = omega (arith, run.counted, run.place, further-later labels at k)

    -- those that are left decide
    module _ {left : ℕ} (is-left : left ≡ lists - k) where
      same : (i : ℕ) → further labels here i ≡ further labels at (k + i)
      same i = ap (λ p. further labels p i) run.place ∙ further_add labels at k i

      left-decide : first_fault (number_further labels here) 0 left ≡ first_fault (number_further labels at) 0 lists
      left-decide =
          faults_moved (number_further labels here) (number_further labels at) k (λ i. ap (list_number labels) (same i)) left 0 ∙
          rw (add-zero k, is-left) (sym behind-decide)

      behind-left : further labels here left ≡ further labels at lists
      behind-left = same left ∙ ap (further labels at) (omega (arith, run.few))

      pub passed-left : (r : Result Scanned LabelRefusal) → ScannedSome labels here left sum r → ScannedSome labels at lists total r
      passed-left (Ok scanned) more =
          record {
            few = omega arith;
            none = sym left-decide ∙ more.none;
            place = more.place ∙ behind-left;
            inside = more.inside;
            counted = omega (arith, run.counted, more.counted, run.few);
          }
      passed-left (Err refusal) is = is ∙ left-decide

-- ---- The lists of all junctions

-- the number of list number g
abbrev number_at : List ℕ → ℕ → ℕ
number_at labels g = list_number labels (place_of labels g)

module _ (labels : List ℕ) where
  -- The lists of the junctions below v are passed, none with a fault: those of v start at byte `at`
  pub record AllPassed (v at total : ℕ) (tables : List ℕ) : Type 0 where
    pub few : v ≤ junctions_of labels
    pub place : at ≡ start_of labels v
    pub inside : at ≤ length labels
    pub counted : total ≡ entries_before labels (lists_before labels v)
    pub small : total ≤ at
    pub left : lists_number labels ≡ faults_from (number_at labels) (lists_of labels) (lists_before labels v)
    pub places : length tables ≡ table_places
    pub noted : (w : ℕ) → w < v → get_or tables (starts_from + w) 0 ≡ start_of labels w

  -- before the first junction
  pub all_none : {from : ℕ} {tables : List ℕ} → ParentsFit labels → from ≡ lists_from labels → length tables ≡ table_places → AllPassed 0 from 0 tables
  unfolding lists_number lists_before place_of entries_before
  all_none parents is-from places =
      record {
        few = omega arith;
        place = is-from;
        inside = omega (arith, parents.inside);
        counted = refl;
        small = omega arith;
        left = ap (first_fault (number_at labels) 0) (omega arith);
        places = places;
        noted = λ w h. absurd (omega arith);
      }

  module _ {v at total depth : ℕ} {tables depths : List ℕ} (passed : AllPassed v at total tables)
      (on_map : v < junctions_of labels) (filled : DepthsFilled labels depths) (deep : depth ≡ get_or depths v 0) where
    is_depth : depth ≡ depth_of labels v
    is_depth = deep ∙ filled.depth v on_map

    -- the lists of v are the next ones of the file
    next_place : (i : ℕ) → further labels at i ≡ place_of labels (lists_before labels v + i)
    next_place i = ap (λ p. further labels p i) passed.place ∙ further-place labels (lists_before labels v) i

    behind_them : lists_before labels v + depth ≡ lists_before labels (v + 1)
    behind_them = ap (λ k. lists_before labels v + k) is_depth ∙ sym (lists_before-next labels v)

    last-place : further labels at depth ≡ place_of labels (lists_before labels (v + 1))
    last-place = next_place depth ∙ ap (place_of labels) behind_them

    -- v's lists decide, or those behind them
    split :
        {number : ℕ} → number ≡ first_fault (number_further labels at) 0 depth →
        lists_number labels ≡ decided number (faults_from (number_at labels) (lists_of labels) (lists_before labels (v + 1)))
    split {number} is =
        passed.left ∙ ap (first_fault (number_at labels) (lists_before labels v)) count ∙
        faults_joined (number_at labels) depth (lists_before labels v) (lists_of labels - lists_before labels (v + 1)) ∙
        rw (here, behind_them)
      where
        count : lists_of labels - lists_before labels v ≡ depth + (lists_of labels - lists_before labels (v + 1))
        count = omega (arith, behind_them, is_depth, lists_of_junction labels on_map)

        here : first_fault (number_at labels) (lists_before labels v) depth ≡ number
        here =
            sym
            (is ∙ faults_moved (number_further labels at) (number_at labels) (lists_before labels v) (λ i. ap (list_number labels) (next_place i)) depth 0 ∙
            ap (λ g. first_fault (number_at labels) g depth) (add-zero (lists_before labels v)))

    -- a fault among v's lists refuses
    pub all_fault :
        {refusal : LabelRefusal} → refusal_number refusal ≡ first_fault (number_further labels at) 0 depth →
        ScannedAll labels (set tables (starts_from + v) at) (Err refusal)
    all_fault {refusal} is =
        record {
          is = sym (split is ∙ decided-more _ (refuses refusal));
          places = length-set tables (starts_from + v) at ∙ passed.places;
          passed = tt;
        }

    -- v's lists are passed
    pub all_more :
        {behind sum : ℕ} → junctions_of labels ≤ 1024 → PassedSome labels at depth total depth behind sum →
        AllPassed (v + 1) behind sum (set tables (starts_from + v) at)
    all_more {behind} {sum} few scanned =
        record {
          few = omega arith;
          place = place_is;
          inside = scanned.inside;
          counted = counted;
          small = omega (arith, counted, place_is, place_counts labels (lists_before labels (v + 1)));
          left = split (sym scanned.none);
          places = length-set tables (starts_from + v) at ∙ passed.places;
          noted = λ w h. pick w h (ℕ_discrete w v);
        }
      where
        place_is : behind ≡ place_of labels (lists_before labels (v + 1))
        place_is = scanned.place ∙ last-place

        counted : sum ≡ entries_before labels (lists_before labels (v + 1))
        counted =
            omega (
              arith,
              scanned.counted,
              passed.place,
              passed.counted,
              place_is,
              is_depth,
              lists_before-next labels v,
              place_counts labels (lists_before labels v),
              place_counts labels (lists_before labels (v + 1)),
            )

        pick : (w : ℕ) → w < v + 1 → Dec (w ≡ v) → get_or (set tables (starts_from + v) at) (starts_from + w) 0 ≡ start_of labels w
        pick w h (yes e) =
            ap (λ i. get_or (set tables (starts_from + v) at) (starts_from + i) 0) e ∙ get_or-set_same tables (starts_from + v) at 0 (omega (arith, passed.places)) ∙ passed.place ∙
            ap (start_of labels) (sym e)
        pick w h (no apart) = get_or-set_other tables (starts_from + v) (starts_from + w) at 0 (λ same. apart (omega arith)) ∙ passed.noted w (omega arith)

  -- all are passed
  pub all_end : {v : ℕ} {scanned : Scanned} {tables : List ℕ} → AllPassed v scanned.at scanned.total tables → junctions_of labels ≤ v → ScannedAll labels tables (Ok scanned)
  all_end {v} passed h =
      record {
        is = sym (passed.left ∙ fault_end (number_at labels) (omega (arith, ap (lists_before labels) all)));
        places = passed.places;
        passed =
            record {
              behind = passed.place ∙ ap (start_of labels) all;
              sum = passed.counted ∙ ap (λ w. entries_before labels (lists_before labels w)) all;
              starts_filled = record { places = passed.places; start = λ w below. passed.noted w (omega arith) };
            };
      }
    where
      all : v ≡ junctions_of labels
      all = omega (arith, passed.few)
