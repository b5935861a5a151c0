-- No common ancestor is as deep as the climbs, so the first parents that are one are where the branches meet.
use Rattle.query.specs.working.Between.{Abreast}
use Rattle.query.proofs.climbing.meet.Given as goal

abbrev pub invariant-loop-level : goal.invariant-loop-level
invariant-loop-level l = Abreast l.labels l.initial.left.from l.initial.right.from l.level l.left l.right
