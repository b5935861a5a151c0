-- Each way through the check is one law of `Accepts`.
use Rattle.std.proofs.Common.{refl}
use Rattle.std.proofs.lemmas.List.{get_or-replicate}
use Rattle.accepted.proofs.Accepts.{serves_one, network_passes}
use Rattle.accepted.proofs.accept.accept.Goals as goal

pub test_labels-requires-clause-network_fits : goal.test_labels-requires-clause-network_fits
test_labels-requires-clause-network_fits c = network_passes (serves_one _ c.version_one.ensures c.in_ok-test_network.ensures) refl

pub exact-requires-clause-unmarked : goal.exact-requires-clause-unmarked
exact-requires-clause-unmarked c = record { marks_places = refl; each = λ i below. get_or-replicate 4096 i 0 0 below }
