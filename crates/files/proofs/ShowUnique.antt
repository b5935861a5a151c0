-- What is shown is one part: two that meet `Shown` for the same labels, v and u are equal.
use mathlib.Core.Path.{◌≡◌, sym, ◌∙◌}
use mathlib.Core.List.{List}
use Prim.Native.Nat.{ℕ}
use Rattle.files.specs.Shown.{Shown, nothing, bytes}

pub shown_unique : {labels : List ℕ} {v u : ℕ} {part other : List ℕ} → Shown labels v u part → Shown labels v u other → part ≡ other
shown_unique (nothing h e) (nothing k f) = e ∙ sym f
shown_unique (nothing h e) (bytes k f) = absurd (h k)
shown_unique (bytes h e) (nothing k f) = absurd (k h)
shown_unique (bytes h e) (bytes k f) = e ∙ sym f
