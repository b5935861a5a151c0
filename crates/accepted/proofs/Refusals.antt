-- A refusal of the check is told by its number: no two have one.
use Rattle.std.proofs.Common.{◌≡◌, ◌∙◌, Result, Ok, Err, ℕ, ap, cond, refl, sym, nat_eq, arith}
use Rattle.network.specs.declared.refusal.NetworkRefusal.TheVariants as network
use Rattle.stored.specs.declared.refusal.LabelRefusal.TheVariants as labels
use Rattle.accepted.specs.declared.answers.CheckRefusal.{CheckRefusal}
use Rattle.accepted.specs.declared.answers.CheckRefusal.TheVariants as refusal
use Rattle.accepted.specs.CheckRefusals.{check_refusal_number, check_number_of}

-- the refusal that has a number
unfoldable pub refusal_of : ℕ → CheckRefusal
refusal_of number =
    cond (nat_eq number 1) (refusal.Network network.Length)
    (cond (nat_eq number 2) (refusal.Network network.Mark)
    (cond (nat_eq number 3) (refusal.Network network.Version)
    (cond (nat_eq number 4) (refusal.Network network.Counts)
    (cond (nat_eq number 5) (refusal.Network network.Ends)
    (cond (nat_eq number 6) (refusal.Network network.Figures)
    (cond (nat_eq number 11) (refusal.Labels labels.Bytes)
    (cond (nat_eq number 12) (refusal.Labels labels.Mark)
    (cond (nat_eq number 13) (refusal.Labels labels.Version)
    (cond (nat_eq number 14) (refusal.Labels labels.Network)
    (cond (nat_eq number 15) (refusal.Labels labels.Parents)
    (cond (nat_eq number 16) (refusal.Labels labels.Road)
    (cond (nat_eq number 17) (refusal.Labels labels.Lists) refusal.WrongList))))))))))))

pub refusal_rebuilt : (refused : CheckRefusal) → refused ≡ refusal_of (check_refusal_number refused)
unfolding refusal_of
refusal_rebuilt (refusal.Network network.Length) = refl
refusal_rebuilt (refusal.Network network.Mark) = refl
refusal_rebuilt (refusal.Network network.Version) = refl
refusal_rebuilt (refusal.Network network.Counts) = refl
refusal_rebuilt (refusal.Network network.Ends) = refl
refusal_rebuilt (refusal.Network network.Figures) = refl
refusal_rebuilt (refusal.Labels labels.Bytes) = refl
refusal_rebuilt (refusal.Labels labels.Mark) = refl
refusal_rebuilt (refusal.Labels labels.Version) = refl
refusal_rebuilt (refusal.Labels labels.Network) = refl
refusal_rebuilt (refusal.Labels labels.Parents) = refl
refusal_rebuilt (refusal.Labels labels.Road) = refl
refusal_rebuilt (refusal.Labels labels.Lists) = refl
refusal_rebuilt refusal.WrongList = refl

-- and it is not 0
pub some_number : (refused : CheckRefusal) → check_refusal_number refused ≡ 0 → ⊥
some_number (refusal.Network network.Length) z = omega arith
some_number (refusal.Network network.Mark) z = omega arith
some_number (refusal.Network network.Version) z = omega arith
some_number (refusal.Network network.Counts) z = omega arith
some_number (refusal.Network network.Ends) z = omega arith
some_number (refusal.Network network.Figures) z = omega arith
some_number (refusal.Labels labels.Bytes) z = omega arith
some_number (refusal.Labels labels.Mark) z = omega arith
some_number (refusal.Labels labels.Version) z = omega arith
some_number (refusal.Labels labels.Network) z = omega arith
some_number (refusal.Labels labels.Parents) z = omega arith
some_number (refusal.Labels labels.Road) z = omega arith
some_number (refusal.Labels labels.Lists) z = omega arith
some_number refusal.WrongList z = omega arith

-- The check's answer is told by its number
pub answer_told : (answer answer' : Result (Unit {0}) CheckRefusal) → check_number_of answer ≡ check_number_of answer' → answer ≡ answer'
answer_told (Ok accepted) (Ok accepted') e = refl
answer_told (Ok accepted) (Err refused) e = absurd (some_number refused (sym e))
answer_told (Err refused) (Ok accepted) e = absurd (some_number refused e)
answer_told (Err refused) (Err refused') e = ap (λ (r : CheckRefusal). Err r) (refusal_rebuilt refused ∙ ap refusal_of e ∙ sym (refusal_rebuilt refused'))
