-- Before its turn the junctions below u stand at their lists for u; after it, behind them.
use mathlib.Core.Path.{◌≡◌, refl}
use Prim.Native.Nat.{◌+◌}
use native.Mathlib.Omega.{arith}
use lib.ListN.{length}
use Rattle.std.specs.List.{slice_range}
use Rattle.std.proofs.lemmas.Bool.Decides.{nat_tests}
use Rattle.tables.specs.working.Layout.{order_from}
use Rattle.preorder.specs.working.Numbered.{junction_at, size_of}
use Rattle.exact.proofs.Sweeping.{block_of, noted_places, swept_alone, swept_moved}
use Rattle.exact.proofs.Verdicts.{agreed_alone}
use Rattle.exact.proofs.sweep.junction_agrees.Goals as goal

pub returns-then-is_empty : goal.returns-then-is_empty
returns-then-is_empty c =
    let none : length (slice_range c.args.set.tables.now (order_from + c.args.i + 1) (order_from + c.args.i + size_of c.args.set.tables.now (junction_at c.args.set.tables.now c.args.i))) ≡ 0
    = grind (arith, nat_tests, c.is_empty.ensures, c.if-is_empty.true) in
    let block = block_of c.requires.files_fit.0.formed c.requires.files_fit.1.numbered c.requires.i_bound refl refl in
    record {
      decides = agreed_alone block none;
      swept_2 = λ e. (
        swept_alone c.requires.files_fit.0.formed c.requires.files_fit.1.numbered c.requires.i_bound refl refl c.requires.swept c.requires.files_fit.1.starts_filled block none,
        c.requires.unmarked,
      );
    }

pub lists_agree-requires-clause-places_for : goal.lists_agree-requires-clause-places_for
lists_agree-requires-clause-places_for c =
    noted_places c.requires.files_fit.0.formed c.requires.files_fit.1.numbered c.requires.i_bound refl refl c.requires.swept _ c.note_above.ensures

pub move_on-requires-clause-places_for : goal.move_on-requires-clause-places_for
move_on-requires-clause-places_for c =
    noted_places c.requires.files_fit.0.formed c.requires.files_fit.1.numbered c.requires.i_bound refl refl c.requires.swept _ c.note_above.ensures

pub returns-clause-swept_2 : goal.returns-clause-swept_2
returns-clause-swept_2 c e = (
  swept_moved c.requires.files_fit.0.formed c.requires.files_fit.1.numbered c.requires.i_bound refl refl c.requires.swept c.requires.files_fit.1.starts_filled c.note_above.ensures c.move_on.ensures,
  c.lists_agree.ensures.unmarked_2 c.if-not-lists_agree.false,
)
