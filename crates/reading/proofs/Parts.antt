-- Where it is known which bytes a file has left, they tell what is handed on of it: no second part meets the statement of `read_first`, and `read_whole` hands on all of them or none.
use Rattle.std.proofs.Common.{◌≡◌, ℕ, zero, suc, List, [], length, take, Some, None, ◌⊎◌, inl, inr, subst, refl, sym, ◌∙◌, le_refl}
use Rattle.std.proofs.lemmas.List.{append_cancel_right, take_all}
use Rattle.std.specs.declared.option.Option.{Option}
use Rattle.std.specs.Io.KnownBytes.{Consumes, IsAtEnd}
use Rattle.std.proofs.KnownBytes.{Consumes-whole}
use Rattle.reading.specs.Reading.{ReadFurther, WholeOrNone, taken_length}

pub first_unique : (left rest one other : List ℕ) → Consumes (Some left) (Some rest) one → Consumes (Some left) (Some rest) other → one ≡ other
first_unique left rest one other taken taken_too = append_cancel_right one other rest (sym taken ∙ taken_too)

-- The part is empty, or it is taken from the file's next byte on and the file has ended behind it
abbrev pub EmptyOrAll : Option (List ℕ) → List ℕ → Type 0
EmptyOrAll old part = (part ≡ []) ⊎ ((between : Option (List ℕ)) × Consumes old between part × IsAtEnd between)

-- what one further read tells decides which
by_further : (old between new : Option (List ℕ)) (read part : List ℕ) (further : Option ℕ) → Consumes old between read → ReadFurther between new further
    → part ≡ take (taken_length (length read) further) read → EmptyOrAll old part
unfolding taken_length
by_further old between new read part (Some zero) taken told is =
    inr (between, subst (Consumes old between) (sym (is ∙ take_all (length read) read (le_refl _))) taken, told)
by_further old between new read part (Some (suc more)) taken told is = inl is
by_further old between new read part None taken told is = inl is

pub empty_or_all : {old new : Option (List ℕ)} {part : List ℕ} → WholeOrNone old new part → EmptyOrAll old part
empty_or_all {old} {new} {part} whole = by_further old whole.between new whole.read part whole.further whole.taken whole.told whole.is

pub whole_unique : (left part : List ℕ) (behind : Option (List ℕ)) → WholeOrNone (Some left) behind part → (part ≡ []) ⊎ (part ≡ left)
whole_unique left part behind whole = elim (empty_or_all whole) [ inl none ↦ inl none | inr all ↦ inr (Consumes-whole (Some left) all.0 part (λ bytes. part ≡ bytes) all.1 all.2 refl) ]
