-- The list is short enough, and each of its entries fits.
use Rattle.std.proofs.Common.{rules, ◌≡◌, ◌<◌, ◌↔◌, ℕ, length, true, IsTrue}
use Rattle.std.proofs.iter.runs.Sources.{ranges}
use Rattle.joins.specs.Form.{entry_fits}
use Rattle.joins.proofs.Rules.{formed_by}
use Rattle.joins.proofs.form.well_formed.Goals as goal

pub returns-then-times-le-MOST_ENTRIES : goal.returns-then-times-le-MOST_ENTRIES
unfolding entry_fits
returns-then-times-le-MOST_ENTRIES c =
    let all_fit : IsTrue c.all.result ↔ ((k : ℕ) → k < length c.args.times.now → entry_fits c.args.times.now c.args.energies.now k ≡ true) = search (rules, ranges) in
    formed_by c.args.times.now c.args.energies.now c.if-times-le-MOST_ENTRIES.true all_fit
