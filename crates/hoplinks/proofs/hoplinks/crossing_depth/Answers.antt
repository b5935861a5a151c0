-- A road makes its upper end a hoplink of l exactly if l stands between its ends; the depths rule most roads out.
use Rattle.hoplinks.proofs.Marks.{upper-deep, lower-shallow, lower-elsewhere, road-crosses}
use Rattle.hoplinks.proofs.hoplinks.crossing_depth.Goals as goal

pub returns-then-own-above : goal.returns-then-own-above
returns-then-own-above c = search (upper-deep)

pub returns-then-depths-lower : goal.returns-then-depths-lower
returns-then-depths-lower c = search (lower-shallow)

pub returns-then-is_ancestor : goal.returns-then-is_ancestor
returns-then-is_ancestor c = search (road-crosses)

pub returns-else-is_ancestor : goal.returns-else-is_ancestor
returns-else-is_ancestor c = search (lower-elsewhere)
