-- One outcome only: the best below a bound, with a reason or without, and the list of a set, counted and written. In this order.
use mathlib.Core.Path.{◌≡◌, refl, sym, ap, ◌∙◌}
use mathlib.Core.List.{List}
use Prim.Native.Nat.{ℕ}
use native.Mathlib.Omega.{arith}
use lib.ListN.{length}
use Rattle.std.specs.Prelude.{Option, Some, None, Result, Ok, Err}
use Rattle.std.specs.Result.{result_ok}
use Rattle.paths.specs.Weights.{energy, time, spent}
use Rattle.paths.specs.declared.pair.Pair.{Pair}
use Rattle.paths.proofs.Figures.{number_lawful}
use Rattle.paths.proofs.Weights.{not_later_antisym}
use Rattle.paths.proofs.Unique.{rising_unique}
use Rattle.refusals.specs.Lent.{filled}
use Rattle.lists.specs.Entries.{Weight, times, energies}
use Rattle.spans.specs.declared.Span.{Span}
use Rattle.spans.specs.working.Waiting.{BestBelow}
use Rattle.spans.specs.working.Below.{NextBelow, NextOrWhy, ListOf}
use Rattle.spans.specs.working.Written.{Counted, ListWritten}

-- ---- The best below a bound

pub best_below_unique : {Has : Weight → Type 0} {bound : ℕ} {p q : Weight} → BestBelow Has bound p → BestBelow Has bound q → p ≡ q
best_below_unique a b = not_later_antisym number_lawful (a.least _ b.among b.below) (b.least _ a.among a.below)

-- a weight as the code holds it
abbrev held : Weight → Pair
held p = record { time = record { 0 = time energy p }; energy = record { 0 = spent energy p } }

pub next_below_unique :
    {Has : Weight → Type 0} {bound : ℕ} (next next' : Option Pair) {span span' : Span} {leasts leasts' : List ℕ} → NextBelow Has bound next span leasts →
    NextBelow Has bound next' span' leasts' → next ≡ next'
next_below_unique (Some p) (Some q) a b = ap (λ w. Some (held w)) (best_below_unique a.told.best b.told.best)
next_below_unique (Some p) None a b = absurd (omega (arith, b.told _ a.told.best.among, a.told.best.below))
next_below_unique None (Some q) a b = absurd (omega (arith, a.told _ b.told.best.among, b.told.best.below))
next_below_unique None None a b = refl

-- what is told with a reason is told without it
pub reason_let_go :
    {Missing : Type 0} {Has : Weight → Type 0} {Says : ℕ → Missing → Type 0} {bound : ℕ} (next : Result Pair Missing) {before after : Span} {leasts : List ℕ} →
    NextOrWhy Has Says bound next before after leasts → NextBelow Has bound (result_ok next) after leasts
reason_let_go (Ok p) below = record { long = below.long; told = below.told }
reason_let_go (Err why) below = record { long = below.long; told = below.told.none }

-- so its pair is one, whatever the reasons say
pub next_or_why_unique :
    {Missing : Type 0} {Has : Weight → Type 0} {Says : ℕ → Missing → Type 0} {bound : ℕ} (next next' : Result Pair Missing) {before after before' after' : Span}
    {leasts leasts' : List ℕ} → NextOrWhy Has Says bound next before after leasts → NextOrWhy Has Says bound next' before' after' leasts' →
    result_ok next ≡ result_ok next'
next_or_why_unique next next' a b = next_below_unique (result_ok next) (result_ok next') (reason_let_go next a) (reason_let_go next' b)

-- ---- The list of a set

pub list_of_unique : {Has : Weight → Type 0} {l k : List Weight} → ListOf Has l → ListOf Has k → l ≡ k
list_of_unique a b = rising_unique number_lawful a.rising b.rising (λ p m. b.complete (a.real m)) (λ p m. a.complete (b.real m))

pub counted_unique : {Has : Weight → Type 0} {count count' : ℕ} → Counted (ListOf Has) count → Counted (ListOf Has) count' → count ≡ count'
counted_unique a b = a.counted ∙ ap (λ l. length l) (list_of_unique a.right b.right) ∙ sym b.counted

module _ {Has : Weight → Type 0} {before_times before_energies : List ℕ} {count : ℕ} {out_times out_energies out_times' out_energies' : List ℕ}
    (a : ListWritten (ListOf Has) before_times before_energies count out_times out_energies)
    (b : ListWritten (ListOf Has) before_times before_energies count out_times' out_energies') where
  pub written_times_unique : out_times ≡ out_times'
  written_times_unique = a.times_filled ∙ ap (λ l. filled before_times (times l)) (list_of_unique a.right b.right) ∙ sym b.times_filled

  pub written_energies_unique : out_energies ≡ out_energies'
  written_energies_unique = a.energies_filled ∙ ap (λ l. filled before_energies (energies l)) (list_of_unique a.right b.right) ∙ sym b.energies_filled
