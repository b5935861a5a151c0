-- What is handed on of a file, and what a further read tells of its end (SCOPE 6.1), where it is known which bytes are left.
use Rattle.std.specs.Prelude.{◌≡◌, List, ℕ, zero, suc, length, take}
use Rattle.std.specs.Io.KnownBytes.{Consumes, Keeps, IsAtEnd}
use Rattle.std.specs.declared.option.Option.{Option}
use Rattle.std.specs.declared.option.Option.TheVariants.{Some, None}

-- 0: no byte was left. More: so many bytes were left at least, and they are taken. None: the read failed, and nothing was taken.
abbrev pub ReadFurther : Option (List ℕ) → Option (List ℕ) → Option ℕ → Type 0
ReadFurther old new (Some zero) = IsAtEnd old
ReadFurther old new (Some (suc more)) = (front : List ℕ) × Consumes old new front × (length front ≡ suc more)
ReadFurther old new None = Keeps old new

-- How long a file is taken to be (SCOPE 6.1), from how many of its bytes were read and what one further read gave: 0 at the file's end.
-- A file that goes on, or that cannot be read, counts as an empty one.
unfoldable pub taken_length : ℕ → Option ℕ → ℕ
taken_length count (Some zero) = count
taken_length count (Some (suc more)) = 0
taken_length count None = 0

-- The part is what was read of a file, from its next byte on, if one further read tells that the file has ended; else it is empty
pub record WholeOrNone (old new : Option (List ℕ)) (part : List ℕ) : Type 0 where
  pub read : List ℕ
  pub between : Option (List ℕ)
  pub further : Option ℕ
  pub taken : Consumes old between read
  pub told : ReadFurther between new further
  pub is : part ≡ take (taken_length (length read) further) read

-- The part is the first bytes of a buffer
pub record FirstBytes (buffer : List ℕ) (count : ℕ) (part : List ℕ) : Type 0 where
  pub counted : length part ≡ count
  pub is : part ≡ take count buffer
