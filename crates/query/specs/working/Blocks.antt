-- What the block of a junction tells of another.
use Rattle.std.specs.Prelude.{List, ℕ, ◌+◌, ◌≤◌, ◌<◌}
use Rattle.preorder.specs.working.Numbered.{spot_of, size_of}

-- v stands in the block of u: it is u or a descendant of u
pub record InBlock (tables : List ℕ) (u v : ℕ) : Type 0 where
  pub not_before : spot_of tables u ≤ spot_of tables v
  pub not_behind : spot_of tables v < spot_of tables u + size_of tables u
