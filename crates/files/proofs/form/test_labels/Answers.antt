-- The parts are tested in the order of `label_form`, and each part that passed lets the next be read.
use mathlib.Core.Path.{refl}
use Rattle.std.proofs.lemmas.Result.{err_from_is_err_and}
use Rattle.stored.proofs.Refusals.{refuses}
use Rattle.files.proofs.FormTests.{header_long, header_few, one_fit, one_join, fit_few, fit_size, numbered_fit, read_header, read_misfit, read_parents, read_unjoined, read_lists, told}
use Rattle.files.proofs.form.test_labels.Goals as goal

pub returns-in_err-test_header : goal.returns-in_err-test_header
returns-in_err-test_header c = let p = err_from_is_err_and c.from_residual.result c.from_residual.ensures.1 in
    rw (p.1, p.2)
    (told _ _ c.args.net c.requires.network_fits
    (λ fits joins f j. read_header _ _ fits joins c.in_err-test_header.ensures (refuses _) c.requires.depths_len c.requires.tables_len))

pub network_fits-requires-clause-labels_header : goal.network_fits-requires-clause-labels_header
network_fits-requires-clause-labels_header c = header_long _ _ c.in_ok-test_header.ensures

pub returns-then-not-network_fits : goal.returns-then-not-network_fits
returns-then-not-network_fits c =
    told _ _ c.args.net c.requires.network_fits
    (λ fits joins f j. read_misfit _ _ fits joins c.in_ok-test_header.ensures (one_fit _ c.args.net c.if-not-network_fits.ensures f) c.requires.depths_len c.requires.tables_len)

pub test_parents-requires-clause-header_bytes_in_bounds : goal.test_parents-requires-clause-header_bytes_in_bounds
test_parents-requires-clause-header_bytes_in_bounds c = header_long _ _ c.in_ok-test_header.ensures

pub test_parents-requires-clause-labels_bound : goal.test_parents-requires-clause-labels_bound
test_parents-requires-clause-labels_bound c = fit_few _ c.args.net c.requires.network_fits c.if-not-network_fits.ensures

pub returns-in_err-test_parents : goal.returns-in_err-test_parents
returns-in_err-test_parents c = let p = err_from_is_err_and c.from_residual-in_err-test_parents.result c.from_residual-in_err-test_parents.ensures.1 in
    rw (p.1, p.2)
    (told _ _ c.args.net c.requires.network_fits
    (λ fits joins f j. read_parents _ _ fits joins c.in_ok-test_header.ensures (one_fit _ c.args.net c.if-not-network_fits.ensures f) c.in_err-test_parents.ensures (refuses _)
    c.requires.tables_len))

pub roads_fit-requires : goal.roads_fit-requires
roads_fit-requires c = record {
  network_fits = fit_size _ c.args.net c.requires.network_fits c.if-not-network_fits.ensures;
  parents_fit = numbered_fit (fit_few _ c.args.net c.requires.network_fits c.if-not-network_fits.ensures) c.in_ok-test_parents.ensures;
  depths_filled = c.in_ok-test_parents.ensures.filled refl;
}

pub returns-then-not-roads_fit : goal.returns-then-not-roads_fit
returns-then-not-roads_fit c =
    told _ _ c.args.net c.requires.network_fits
    (λ fits joins f j. read_unjoined _ _ fits joins c.in_ok-test_header.ensures (one_fit _ c.args.net c.if-not-network_fits.ensures f) c.in_ok-test_parents.ensures
    (one_join _ c.args.net c.if-not-roads_fit.ensures j) c.requires.tables_len)

pub test_lists-requires : goal.test_lists-requires
test_lists-requires c = record {
  parents_fit = numbered_fit (fit_few _ c.args.net c.requires.network_fits c.if-not-network_fits.ensures) c.in_ok-test_parents.ensures;
  depths_filled = c.in_ok-test_parents.ensures.filled refl;
  labels_len_bound = header_few _ _ c.in_ok-test_header.ensures;
  tables_len = c.requires.tables_len;
}

pub returns : goal.returns
returns c =
    told _ _ c.args.net c.requires.network_fits
    (λ fits joins f j. read_lists _ _ fits joins c.in_ok-test_header.ensures (one_fit _ c.args.net c.if-not-network_fits.ensures f) c.in_ok-test_parents.ensures
    (one_join _ c.args.net c.if-not-roads_fit.ensures j) c.test_lists.ensures)
