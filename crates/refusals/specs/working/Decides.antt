-- What a test's answer says.
use Rattle.std.specs.Prelude.{◌≡◌, Bool, true, false}

-- A test's answer decides a statement
pub record Decides (P : Type 0) (answer : Bool) : Type 0 where
  pub holds : answer ≡ true → P
  pub fails : answer ≡ false → P → ⊥
