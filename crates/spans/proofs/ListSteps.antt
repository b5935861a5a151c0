-- The list of a set counted and filled, one law for each way through a loop. In this order: counting; filling.
use mathlib.Core.Path.{◌≡◌}
use mathlib.Core.List.{List}
use Prim.Native.Nat.{ℕ, ◌+◌, ◌-◌, ◌≤◌, ◌<◌}
use native.Mathlib.Omega.{arith}
use lib.ListN.{length, set}
use Rattle.std.specs.Prelude.{Option, Some, None, Result, Ok, Err}
use Rattle.std.proofs.Common.{IsOk, IsSome, rules}
use Rattle.paths.specs.Weights.{energy, pair, spent}
use Rattle.paths.specs.declared.pair.Pair.{Pair}
use Rattle.lists.specs.Entries.{Weight}
use Rattle.lists.specs.working.Lists.{above_all}
use Rattle.lists.proofs.JoinBackwards.{below-some, below_none, filled_end, Counting, counting-start, counting_more, counting-none, counting_end, Filling, filling-start, filling-more}
use Rattle.spans.specs.declared.Span.{Span}
use Rattle.spans.specs.working.Noting.{span_seconds}
use Rattle.spans.specs.working.Waiting.{Waiting, NoSpan}
use Rattle.spans.specs.working.Below.{FiguresFit, FoundBelow, BelowIs, NextBelow, BelowOrWhy, NextOrWhy, ListOf}
use Rattle.spans.specs.working.Written.{SomeList, Counted, ListWritten}
use Rattle.spans.proofs.WaitingLaws.{waiting_start}
use Rattle.spans.proofs.BelowLaws.{list-ordered, list-small, below-last, nothing-left}

-- ---- Counting

-- At the head of the counting loop
pub record CountingList (Has : Weight → Type 0) (count bound : ℕ) (span : Span) (leasts : List ℕ) : Type 0 where
  pub list : List Weight
  pub right : ListOf Has list
  pub counting : Counting list count bound
  -- so that the count fits 32 bits
  pub both_small : count + bound ≤ above_all
  pub waits : Waiting Has bound span leasts

-- before the first turn
pub count-start :
    {Has : Weight → Type 0} {span : Span} {leasts : List ℕ} → ((p : Weight) → Has p → FiguresFit p) → SomeList (ListOf Has) → NoSpan span →
    length leasts ≡ span_seconds → CountingList Has 0 above_all span leasts
count-start fit z empty long =
    record {
      list = z.list;
      right = z.right;
      counting = counting-start (λ p m. omega (arith, list-small z.right fit p m));
      both_small = omega arith;
      waits = waiting_start above_all empty long;
    }

module _ {Has : Weight → Type 0} {count bound : ℕ} {span : Span} {leasts : List ℕ} (now : CountingList Has count bound span leasts) where
  module _ (some : 0 < bound) where
    -- a sum was found: the list has one entry more
    pub count-more : {t e : ℕ} {after : Span} {lower : List ℕ} → FoundBelow Has bound (pair t e) after lower → CountingList Has (count + 1) e after lower
    count-more found =
        record {
          list = now.list;
          right = now.right;
          counting = counting_more now.counting (list-ordered now.right) some (below-last now.right some found.best);
          both_small = omega (arith, found.best.below, now.both_small);
          waits = found.waits;
        }

    -- no sum was found: the list is counted
    pub count_none : ((p : Weight) → Has p → bound ≤ spent energy p) → Counted (ListOf Has) count
    count_none none =
        record { list = now.list; right = now.right; counted = counting-none now.counting some (nothing-left now.right some none) }

  -- no energy is left: the list is counted
  pub counted_end : bound ≤ 0 → Counted (ListOf Has) count
  counted_end h = record { list = now.list; right = now.right; counted = counting_end now.counting h }

-- ---- Filling

-- At the head of the filling loop
pub record FillingList (Has : Weight → Type 0) (count : ℕ) (out_times out_energies : List ℕ) (bound place : ℕ) (now_times now_energies : List ℕ) (span : Span)
    (leasts : List ℕ) : Type 0 where
  pub list : List Weight
  pub right : ListOf Has list
  pub counted : count ≡ length list
  pub filling : Filling list out_times out_energies bound place now_times now_energies
  pub waits : Waiting Has bound span leasts

-- before the first turn
pub fill_start :
    {Has : Weight → Type 0} {count : ℕ} {out_times out_energies : List ℕ} {span : Span} {leasts : List ℕ} → ((p : Weight) → Has p → FiguresFit p) →
    Counted (ListOf Has) count → count ≤ length out_times → count ≤ length out_energies → NoSpan span → length leasts ≡ span_seconds →
    FillingList Has count out_times out_energies above_all count out_times out_energies span leasts
fill_start fit z h k empty long =
    record {
      list = z.list;
      right = z.right;
      counted = z.counted;
      filling = filling-start z.list (λ p m. omega (arith, list-small z.right fit p m)) z.counted h k;
      waits = waiting_start above_all empty long;
    }

module _ {Has : Weight → Type 0} {count : ℕ} {out_times out_energies : List ℕ} {bound place : ℕ} {now_times now_energies : List ℕ} {span : Span} {leasts : List ℕ}
    (now : FillingList Has count out_times out_energies bound place now_times now_energies span leasts) where
  module _ (some : 0 < place) where
    -- an entry is left, so a sum lies below the bound
    pub fill_bound : 0 < bound
    fill_bound = below-some now.filling.left some

    -- one is always found
    pub always_found : {next : Option Pair} {after : Span} {lower : List ℕ} → NextBelow Has bound next after lower → IsSome next
    always_found {next} {after} {lower} below = pick next below.told
      where
        pick : (told : Option Pair) → BelowIs Has bound after lower told → IsSome told
        pick (Some p) found = search rules
        pick None none = absurd (omega (arith, below_none now.filling.left fill_bound (nothing-left now.right fill_bound none)))

    -- also where a reason could be told
    pub always_ok :
        {Missing : Type 0} {Says : ℕ → Missing → Type 0} {next : Result Pair Missing} {before after : Span} {lower : List ℕ} →
        NextOrWhy Has Says bound next before after lower → IsOk next
    always_ok {Missing} {Says} {next} {before} {after} {lower} below = pick next below.told
      where
        pick : (told : Result Pair Missing) → BelowOrWhy Has Says bound before after lower told → IsOk told
        pick (Ok p) found = search rules
        pick (Err why) none = absurd (omega (arith, below_none now.filling.left fill_bound (nothing-left now.right fill_bound none.none)))

    -- it goes to the place before
    pub fill_more :
        {t e : ℕ} {after : Span} {lower : List ℕ} → FoundBelow Has bound (pair t e) after lower →
        FillingList Has count out_times out_energies e (place - 1) (set now_times (place - 1) t) (set now_energies (place - 1) e) after lower
    fill_more found =
        record {
          list = now.list;
          right = now.right;
          counted = now.counted;
          filling = filling-more now.list now.filling (list-ordered now.right) fill_bound (below-last now.right fill_bound found.best);
          waits = found.waits;
        }

  -- all places are filled
  pub fill_end : place ≤ 0 → ListWritten (ListOf Has) out_times out_energies count now_times now_energies
  fill_end h =
      record {
        list = now.list;
        right = now.right;
        counted = now.counted;
        times_filled = filled_end h now.filling.times-held;
        energies_filled = filled_end h now.filling.energies-held;
      }
