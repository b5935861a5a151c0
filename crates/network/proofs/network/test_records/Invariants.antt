-- The first fault of all records is the first fault of those from k on.
use Rattle.network.specs.NetworkNumber.{record_number}
use Rattle.refusals.proofs.FaultLoop.{FaultsLeft}
use Rattle.network.proofs.network.test_records.Given as goal

abbrev pub invariant-loop-k : goal.invariant-loop-k
invariant-loop-k l = FaultsLeft (record_number l.net) l.roads l.k
