-- A header that is refused decides; one that passed has room for its records, and they decide.
use mathlib.Core.Path.{sym}
use borrow.Author.Rules.{rules}
use native.Mathlib.Omega.{arith}
use Rattle.network.proofs.NetworkTests.{header-fits, refused_by_header, records-decide}
use Rattle.network.proofs.network.test_network.Goals as goal

pub returns-in_err-test_header : goal.returns-in_err-test_header
returns-in_err-test_header c =
    let refused = refused_by_header c.args.serves c.args.net.now c.in_err-test_header.field-0.0 c.in_err-test_header.ensures in search (rules, refused)

pub roads_of-requires : goal.roads_of-requires
roads_of-requires c = omega (arith, header-fits c.args.serves c.args.net.now (sym c.in_ok-test_header.ensures))

pub test_records-requires : goal.test_records-requires
test_records-requires c = omega (arith, header-fits c.args.serves c.args.net.now (sym c.in_ok-test_header.ensures))

pub returns : goal.returns
returns c = records-decide c.args.serves c.args.net.now c.in_ok-test_header.ensures c.roads_of.ensures c.test_records.ensures
