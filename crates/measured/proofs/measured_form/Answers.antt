-- `measured_form` may ask for the labels' form: a network whose number is 0 fits. Its answer is the number of the file that it asks last.
use mathlib.Core.Path.{refl}
use native.Mathlib.Omega.{arith}
use Rattle.network.specs.Versions.{version_one}
use Rattle.network.proofs.Accepted.{network-fits}
use Rattle.measured.specs.working.FormNumber.{network_refused, network_passed}
use Rattle.measured.proofs.measured_form.Goals as goal

pub returns-then-number-ne0 : goal.returns-then-number-ne0
returns-then-number-ne0 c = let number = rw c.version_one.ensures at c.net_number-number.ensures in
    network_refused (λ z. omega (arith, number, z)) number

pub labels_number-requires : goal.labels_number-requires
labels_number-requires c = record { network_fits = network-fits version_one _ (cc); depths_len = refl; tables_len = refl }

pub returns : goal.returns
returns c = let number = rw c.version_one-2.ensures at c.labels_number.ensures in
    network_passed (cc) number.read.number
