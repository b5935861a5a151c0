-- The next list starts behind the count's two bytes and eight bytes for each entry.
use mathlib.Core.List.{[]}
use native.Mathlib.Omega.{arith}
use Rattle.forest.specs.LabelFile.{list_end}
use Rattle.stored.proofs.place.Place.next.Goals as goal

pub returns : goal.returns
unfolding list_end
returns c = omega (arith, c.entries_end.ensures.each [], c.count.ensures.is)
