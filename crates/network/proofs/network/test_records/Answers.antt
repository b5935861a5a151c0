-- The first fault of all records is the first fault of those from k on.
use mathlib.Core.Path.{refl}
use borrow.Author.Rules.{rules}
use Rattle.refusals.proofs.FaultLoop.{faults_more, faults_end}
use Rattle.network.proofs.NetworkTests.{refused_here}
use Rattle.network.proofs.network.test_records.Goals as goal

pub returns-in_err-test_record : goal.returns-in_err-test_record
returns-in_err-test_record c =
    let first = refused_here c.in_err-test_record.field-0.0 c.loop-k.invariant c.loop-k-test.true c.in_err-test_record.ensures in search (rules, first)

pub loop-k-preserved : goal.loop-k-preserved
loop-k-preserved c = faults_more c.loop-k.invariant c.loop-k-test.true c.in_ok-test_record.ensures refl

pub returns : goal.returns
returns c = faults_end c.loop-k.invariant c.loop-k-test.false
