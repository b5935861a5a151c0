-- The invariant is what the lemmas of `Scan` carry from junction to junction.
use mathlib.Core.Path.{refl}
use native.Mathlib.Omega.{arith}
use Rattle.std.proofs.lemmas.Result.{err_from_is_err_and}
use Rattle.stored.proofs.Scan.{all_none, all_fault, all_more, all_end}
use Rattle.stored.proofs.stored.scan_lists.Goals as goal

pub loop-v-init : goal.loop-v-init
loop-v-init c = all_none _ c.requires.parents_fit c.lists_from.ensures c.requires.tables_len

pub returns-in_err-passed : goal.returns-in_err-passed
returns-in_err-passed c = let p = err_from_is_err_and c.from_residual.result c.from_residual.ensures.1 in
    rw (p.1, p.2) (all_fault _ c.loop-v.invariant (omega arith) c.requires.depths_filled refl c.in_err-passed.ensures)

pub loop-v-preserved : goal.loop-v-preserved
loop-v-preserved c = all_more _ c.loop-v.invariant (omega arith) c.requires.depths_filled refl c.requires.parents_fit.few_junctions c.in_ok-passed.ensures

pub returns : goal.returns
returns c = all_end _ c.loop-v.invariant (omega arith)
