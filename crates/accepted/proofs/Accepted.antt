-- What follows where the check's number is 0: an accepted set, and with the tables of the call what queries stand on.
use mathlib.Core.Path.{◌≡◌, refl, sym, ◌∙◌}
use mathlib.Core.List.{List}
use Prim.Native.Nat.{ℕ}
use native.Mathlib.Omega.{arith}
use Rattle.network.specs.Versions.{version_one}
use Rattle.network.proofs.Accepted.{network-fits}
use Rattle.files.proofs.FormLaws.{files_fit}
use Rattle.query.specs.working.Prepared.{Prepared}
use Rattle.accepted.specs.Check.{Checked, network_refused, labels_refused, list_wrong, accepted}
use Rattle.accepted.specs.working.Accepting.{Accepted, Accepting}

-- number 0 is given to accepted sets alone
pub zero_accepts : {net labels : List ℕ} {number : ℕ} → Checked net labels number → number ≡ 0 → Accepted net labels
zero_accepts (network_refused n e) z = absurd (n (sym e ∙ z))
zero_accepts (labels_refused y n e) z = absurd (n (sym e ∙ z))
zero_accepts (list_wrong y x w e) z = absurd (omega arith)
zero_accepts (accepted y x w e) z = record { network_passes = y; form_passes = x; every_list_right = w }

-- and every accepted set gets it
pub accepted-zero : {net labels : List ℕ} → Accepted net labels → Checked net labels 0
accepted-zero a = accepted a.network_passes a.form_passes a.every_list_right refl

-- the check's number 0, as a number
pub check_passed : {net labels depths tables : List ℕ} {number : ℕ} → Accepting net labels number depths tables → number ≡ 0 → Checked net labels 0
check_passed accepting none = rw none at accepting.checked

-- what queries stand on
pub ready_for_queries : {net labels depths tables : List ℕ} {number : ℕ} → Accepting net labels number depths tables → number ≡ 0 → Prepared net labels depths tables
ready_for_queries {net} {labels} accepting none =
    let a = zero_accepts accepting.checked none in
    record {
      beside = files_fit version_one labels (network-fits version_one net a.network_passes) a.form_passes;
      every_list_right = a.every_list_right;
      depths_filled = (accepting.filled none).depths_filled;
      starts_filled = (accepting.filled none).starts_filled;
      grouped = (accepting.filled none).grouped;
      numbered = (accepting.filled none).numbered;
    }
