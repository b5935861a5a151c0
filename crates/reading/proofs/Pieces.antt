-- What is put behind the front of a buffer stands behind it.
use Rattle.std.proofs.Common.{◌≡◌, ℕ, ◌+◌, ◌≤◌, List, ◌++◌, length, take, drop, sym, ap, ◌∙◌, le_refl, drop_at, length-take-le}
use Rattle.std.proofs.lemmas.Slice.{take-put_mid_below}
use borrow.Rule.Slice.PartMut.{put_mid, post_of}
use lib.Seq.{take-add, take-append-le}

-- the front and so many places behind it are the old front and the front of what was put there
pub front_grows : (at room n : ℕ) (old part : List ℕ) → at ≤ length old → n ≤ length part → take at old ++ take n part ≡ take (at + n) (put_mid at room old part)
front_grows at room n old part within fits =
    let new = put_mid at room old part in
    let behind = post_of at room old in
    let rest : drop at new ≡ part ++ behind = drop_at (take at old) (part ++ behind) at (length-take-le at old within) in
    let front : take at new ≡ take at old = take-put_mid_below _ _ _ _ _ (le_refl _) within in
    ap (λ l. l ++ take n part) (sym front) ∙ ap (λ l. take at new ++ l) (sym (ap (take n) rest ∙ take-append-le n part behind fits)) ∙ sym (take-add at n new)
