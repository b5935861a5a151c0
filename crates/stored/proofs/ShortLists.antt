-- Runs of short lists: the laws of the two loops. In this order: two entries; a list of entries that keep the rules; a run and one list more.
use mathlib.Core.Path.{◌≡◌, refl, sym, ap, ◌∙◌}
use mathlib.Core.Bool.{Bool, true, false, ◌&&◌}
use Rattle.std.specs.Prelude.{Option, IfSome}
use Rattle.std.specs.Bool.{then_some}
use Rattle.std.specs.Int.{from_bool}
use mathlib.Core.List.{List}
use Prim.Native.Nat.{ℕ, zero, suc, ◌+◌, ◌-◌, ◌*◌, ◌≤◌, ◌<◌}
use native.Mathlib.Omega.{arith}
use lib.Dec.{leb}
use lib.ListN.{length}
use borrow.Author.Tests.{leb-true, lt-ltb}
use Rattle.refusals.proofs.Order.{and_both, all_pass}
use Rattle.forest.specs.LabelVersions.{least_entry_energy}
use Rattle.network.specs.NetworkFile.{version_of}
use Rattle.forest.specs.LabelFile.{count_at, time_at, energy_at, energy_end, list_end}
use Rattle.stored.specs.ListForm.{most_figure, entry_number}
use Rattle.stored.specs.working.Scanned.{time_below, energy_from, PassedSome}
use Rattle.stored.specs.declared.runs.Run.{Run}
use Rattle.stored.specs.working.Runs.{EnergyFollows, Leading, SingleList, ShortList, Quick, OneMore}
use Rattle.stored.proofs.Lists.{entry-fits, fits-entry, energy-rules, rules-energy}
use Rattle.stored.proofs.Entries.{time-tested, energy-tested, list_by_entries}
use Rattle.stored.proofs.Scan.{passed_none, passed-more}

-- ---- Two entries

-- a product of flags is at most 1
pub product_small : (first second : Bool) {a b : ℕ} → a ≡ from_bool first → b ≡ from_bool second → a * b ≤ 1
product_small true true is-a is-b = rw (is-a, is-b) (omega arith)
product_small true false is-a is-b = rw (is-a, is-b) (omega arith)
product_small false true is-a is-b = rw (is-a, is-b) (omega arith)
product_small false false is-a is-b = rw (is-a, is-b) (omega arith)

module _ (labels : List ℕ) (at : ℕ) where
  -- a first entry that passes both tests keeps the rules
  pub first_passes :
      {x y : Bool} {t e least : ℕ} → energy_end labels at 0 ≤ length labels → least ≡ least_entry_energy (version_of labels) → t ≡ time_at labels at 0 →
      x ≡ time_below (suc most_figure) t → e ≡ energy_at labels at 0 → y ≡ energy_from least e → (x && y) ≡ true → entry_number labels at 0 ≡ 0
  first_passes {x} {y} inside is-least is-time timed is-energy tested holds =
      fits-entry
      (record {
        inside = omega arith;
        fitting_time = sym (time-tested labels at 0 refl is-time timed) ∙ (and_both x y holds).0;
        fitting_energy = sym (energy-tested labels at 0 (omega (arith, is-least)) is-least is-energy tested) ∙ (and_both x y holds).1;
      })

  -- and so does a second behind it
  pub second_passes :
      {x y : Bool} {t e before-time before-energy : ℕ} → energy_end labels at 1 ≤ length labels → before-time ≡ time_at labels at 0 → t ≡ time_at labels at 1 →
      x ≡ time_below before-time t → before-energy ≡ energy_at labels at 0 → e ≡ energy_at labels at 1 → (y ≡ true → EnergyFollows before-energy e) →
      (x && y) ≡ true → entry_number labels at 0 ≡ 0 → entry_number labels at 1 ≡ 0
  second_passes {x} {y} inside is-before is-time timed is-first is-energy follows holds first =
      let kept = follows (and_both x y holds).1 in
      let before = energy-rules (entry-fits labels at 0 first).fitting_energy in
      fits-entry
      (record {
        inside = omega arith;
        fitting_time = sym (time-tested labels at 1 is-before is-time timed) ∙ (and_both x y holds).0;
        fitting_energy =
            rules-energy
            (record {
              least = omega (arith, kept.rises, before.least);
              most = omega (arith, kept.most);
              follows = lt-ltb (energy_at labels at 0) (energy_at labels at 1) (omega (arith, kept.rises));
            });
      })

  -- the first entry counts by itself, and the second with the first
  pub leading_counted :
      {first second : Bool} {a b : ℕ} → (first ≡ true → entry_number labels at 0 ≡ 0) → (second ≡ true → entry_number labels at 0 ≡ 0 → entry_number labels at 1 ≡ 0) →
      a ≡ from_bool first → b ≡ from_bool second → Leading labels at (a + a * b)
  leading_counted {first} {second} {a} {b} one two is-a is-b = rw (is-a, is-b) (counted first second one two)
    where
      none : Leading labels at 0
      none = record { few = omega arith; fit = λ j h. absurd (omega arith) }

      counted :
          (first second : Bool) → (first ≡ true → entry_number labels at 0 ≡ 0) → (second ≡ true → entry_number labels at 0 ≡ 0 → entry_number labels at 1 ≡ 0) →
          Leading labels at (from_bool first + from_bool first * from_bool second)
      counted false false one two = none
      counted false true one two = none
      counted true false one two = record { few = omega arith; fit = alone }
        where
          alone : (j : ℕ) → j < 1 → entry_number labels at j ≡ 0
          alone zero h = one refl
          alone (suc j) h = absurd (omega arith)
      counted true true one two = record { few = omega arith; fit = both }
        where
          both : (j : ℕ) → j < 2 → entry_number labels at j ≡ 0
          both zero h = one refl
          both (suc zero) h = two refl (one refl)
          both (suc (suc j)) h = absurd (omega arith)

-- ---- A list of entries that keep the rules

-- a list no longer than the entries that keep the rules has no fault
pub short_passes :
    {labels : List ℕ} {at lead count : ℕ} → Leading labels at lead → at + 2 ≤ length labels → count ≡ count_at labels at → count ≤ lead → ShortList labels at count
short_passes {labels} {at} leads inside is short =
    record {
      is = is;
      short = omega (arith, leads.few);
      fits =
          sym
          (list_by_entries labels at inside (omega (arith, leads.few))
          (sym (all_pass (entry_number labels at) (count_at labels at) (λ j h l. leads.fit j (omega arith)))));
    }

-- so its count may be told
pub short_told :
    {labels : List ℕ} {at lead count : ℕ} {told : Option ℕ} → Leading labels at lead → at + 2 ≤ length labels → count ≡ count_at labels at →
    told ≡ then_some (leb count lead) count → IfSome told (ShortList labels at)
short_told {labels} {at} {lead} {count} leads inside is e = rw e (pick (leb count lead) refl)
  where
    pick : (test : Bool) → leb count lead ≡ test → IfSome (then_some test count) (ShortList labels at)
    pick true h = short_passes leads inside is (leb-true count lead h)
    pick false h = tt

-- a list of one entry that keeps the rules
pub single_passes :
    {labels : List ℕ} {at count : ℕ} → at + 2 ≤ length labels → count ≡ count_at labels at → count ≡ 1 → entry_number labels at 0 ≡ 0 → ShortList labels at 1
single_passes {labels} {at} inside is one fits = short_passes lead inside (sym one ∙ is) (omega arith)
  where
    first : (j : ℕ) → j < 1 → entry_number labels at j ≡ 0
    first zero h = fits
    first (suc j) h = absurd (omega arith)

    lead : Leading labels at 1
    lead = record { few = omega arith; fit = first }

pub single_list :
    {labels : List ℕ} {at count : ℕ} → at + 2 ≤ length labels → count ≡ count_at labels at → count ≡ 1 → entry_number labels at 0 ≡ 0 → SingleList labels at
single_list inside is one fits = record { one = sym is ∙ one; fits = (single_passes inside is one fits).fits }

-- ---- A run and one list more

-- Of the lists that a run may pass k are passed, and there is room for those left though each has two entries
pub record Running (labels : List ℕ) (at lists total : ℕ) (end k : ℕ) (run : Run) : Type 0 where
  pub passed : PassedSome labels at lists total run.lists run.at run.total
  pub counted : run.lists ≡ k
  pub reach : end ≤ lists
  pub few : k ≤ end
  pub room : run.at + 18 * (end - k) ≤ length labels

module _ {labels : List ℕ} {at lists total end : ℕ} where
  -- before the first list
  pub running_none : {run : Run} → at ≤ length labels → Quick (length labels - at) lists end → run ≡ record { lists = 0; at = at; total = total } → Running labels at lists total end 0 run
  running_none inside quick e =
      rw e
      (record { passed = passed_none labels at lists total inside; counted = refl; reach = quick.few; few = omega arith; room = omega (arith, quick.inside) })

  -- a short list without fault is passed
  pub running_more :
      {k count : ℕ} {run next : Run} → Running labels at lists total end k run → k < end → ShortList labels run.at count →
      OneMore run.lists run.at run.total count next.lists next.at next.total → Running labels at lists total end (k + 1) next
  unfolding list_end
  running_more {k} {count} {run} {next} running h list step =
      record {
        passed =
            rw (step.listed, step.counted)
            (passed-more labels at lists total running.passed (omega (arith, running.reach, running.counted)) (sym list.fits) list.is
            (step.place labels ∙ ap (λ n. run.at + 2 + 8 * n) list.is));
        counted = step.listed ∙ ap (λ n. n + 1) running.counted;
        reach = running.reach;
        few = omega arith;
        room = omega (arith, running.room, step.place labels, list.short);
      }
