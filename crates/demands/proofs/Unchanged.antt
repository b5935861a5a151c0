-- What demand 1 stands on: call by call, a refusal carries zeros or an empty part, and what was lent is as it was.
use mathlib.Core.Path.{◌≡◌}
use mathlib.Core.List.{List, []}
use Prim.Native.Nat.{ℕ}
use Rattle.joins.specs.Answers.{Join, LimitedJoin}
use Rattle.files.specs.Shown.{Shows, Shown}
use Rattle.query.specs.Answers.{Answers}
use Rattle.accepted.specs.Route.{RouteAnswered}
use Rattle.accepted.specs.List.{ListAnswered}
use Rattle.labels.specs.Batch.{BatchDone}
use Rattle.labels.specs.Route.{Routed}
use Rattle.labels.specs.List.{Listed}

pub batch-unchanged :
    {net labels queries before after : List ℕ} {number : ℕ} → BatchDone net labels queries before number after → (number ≡ 0 → ⊥) → after ≡ before
batch-unchanged (BatchDone.misshapen n e f) refusal = f
batch-unchanged (BatchDone.not_accepted z c k f) refusal = f
batch-unchanged (BatchDone.answered z c e l g) refusal = absurd (refusal e)

pub triple_zeros :
    {net : List ℕ} {s t limit number time energy : ℕ} → Answers net s t limit number time energy → (number ≡ 0 → ⊥) → (time ≡ 0) × (energy ≡ 0)
triple_zeros (Answers.off_map off e f g) refusal = (f, g)
triple_zeros (Answers.not_connected h k none e f g) refusal = (f, g)
triple_zeros (Answers.over_limit h k out e f g) refusal = (f, g)
triple_zeros (Answers.found h k best e) refusal = absurd (refusal e)

pub route-unchanged :
    {net labels before after : List ℕ} {s t limit number time energy count : ℕ} →
    Routed net labels s t limit before number time energy count after → (number ≡ 0 → ⊥) → (time ≡ 0) × (energy ≡ 0) × (count ≡ 0) × (after ≡ before)
route-unchanged (Routed.not_accepted c n r) refusal = (r.zero_time, r.zero_energy, r.no_count, r.stays)
route-unchanged (Routed.answered c (RouteAnswered.no_answer a n k l)) refusal = let zeros = triple_zeros a n in (zeros.0, zeros.1, k, l)
route-unchanged (Routed.answered c (RouteAnswered.no_room a first short r)) refusal = (r.zero_time, r.zero_energy, r.no_count, r.stays)
route-unchanged (Routed.answered c (RouteAnswered.routed a first fits e k l)) refusal = absurd (refusal e)

pub list-unchanged :
    {net labels times_before energies_before times_after energies_after : List ℕ} {s t number count : ℕ} →
    Listed net labels s t times_before energies_before number count times_after energies_after → (number ≡ 0 → ⊥) →
    (count ≡ 0) × (times_after ≡ times_before) × (energies_after ≡ energies_before)
list-unchanged (Listed.not_accepted c n r) refusal = (r.no_count, r.times_stay, r.energies_stay)
list-unchanged (Listed.answered c (ListAnswered.off_map off r)) refusal = (r.no_count, r.times_stay, r.energies_stay)
list-unchanged (Listed.answered c (ListAnswered.not_connected h k apart r)) refusal = (r.no_count, r.times_stay, r.energies_stay)
list-unchanged (Listed.answered c (ListAnswered.no_room h k right some short r)) refusal = (r.no_count, r.times_stay, r.energies_stay)
list-unchanged (Listed.answered c (ListAnswered.listed h k right some fits e f g l)) refusal = absurd (refusal e)

pub join-unchanged :
    {ts es us fs times_before energies_before times_after energies_after : List ℕ} {number count : ℕ} →
    Join ts es us fs times_before energies_before number count times_after energies_after → (number ≡ 0 → ⊥) →
    (count ≡ 0) × (times_after ≡ times_before) × (energies_after ≡ energies_before)
join-unchanged (Join.refused n r) refusal = (r.no_count, r.times_stay, r.energies_stay)
join-unchanged (Join.no_room z right short r) refusal = (r.no_count, r.times_stay, r.energies_stay)
join-unchanged (Join.joined z right fits e f g l) refusal = absurd (refusal e)

pub limited_join_zeros :
    {ts es us fs : List ℕ} {limit number time energy : ℕ} → LimitedJoin ts es us fs limit number time energy → (number ≡ 0 → ⊥) → (time ≡ 0) × (energy ≡ 0)
limited_join_zeros (LimitedJoin.refused n r) refusal = (r.zero_time, r.zero_energy)
limited_join_zeros (LimitedJoin.over_limit z none r) refusal = (r.zero_time, r.zero_energy)
limited_join_zeros (LimitedJoin.found z best e) refusal = absurd (refusal e)

pub show-empty : {labels part : List ℕ} {v u : ℕ} → Shown labels v u part → (Shows labels v u → ⊥) → part ≡ []
show-empty (Shown.nothing n e) refusal = e
show-empty (Shown.bytes shows e) refusal = absurd (refusal shows)
