-- A level whose entries are not tried has no sum that covers the pair.
use Rattle.reaching.proofs.Searching.{level-unmarked, level-none, tried-none}
use Rattle.reaching.proofs.reach.entries_tried.Goals.{then-marks-level-ne1-via-then-marks-level-ne1, then-marks-level-ne1-via-else-marks-level-ne1+then-not-may_cover}
use Rattle.reaching.proofs.reach.entries_tried.Goals as goal

pub returns-then-marks-level-ne1 : goal.returns-then-marks-level-ne1
returns-then-marks-level-ne1 c = elim c.then-marks-level-ne1.branch [
  | then-marks-level-ne1-via-then-marks-level-ne1 w ↦ tried-none (level-unmarked w.if-marks-level-ne1.true)
  | then-marks-level-ne1-via-else-marks-level-ne1+then-not-may_cover w ↦ tried-none (level-none (w.may_cover.ensures w.if-not-may_cover.true))
]
