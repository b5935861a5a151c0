-- The order of tests (SCOPE 4.3): the first test that fails gives its number.
use Rattle.std.specs.Prelude.{Bool, true, false, ◌&&◌, ℕ, zero, suc}

-- The number, unless the test holds; then what is tested next
abbrev pub unless : Bool → ℕ → ℕ → ℕ
unless true number next = next
unless false number next = number

-- A number that is not 0 refuses; 0 lets the next number decide
abbrev pub decided : ℕ → ℕ → ℕ
decided zero next = next
decided (suc number) next = suc number

-- The test holds of every number below n
unfoldable pub every : (ℕ → Bool) → ℕ → Bool
every test zero = true
every test (suc n) = every test n && test n

-- The first fault decides: the first number that is not 0 among fault k, fault (k + 1), …, as many as are left
unfoldable pub first_fault : (ℕ → ℕ) → ℕ → ℕ → ℕ
first_fault fault k zero = 0
first_fault fault k (suc left) = decided (fault k) (first_fault fault (suc k) left)
