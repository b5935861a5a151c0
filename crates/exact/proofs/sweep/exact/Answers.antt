-- The lists for the junctions from spot i on agree.
use Rattle.exact.proofs.Sweeping.{swept_none}
use Rattle.exact.proofs.Verdicts.{from_none, from_all}
use Rattle.exact.proofs.sweep.exact.Goals as goal

pub loop-i-init : goal.loop-i-init
loop-i-init c = (from_none c.requires.files_fit.0 c.requires.files_fit.1.numbered c.junctions_of-i.ensures.is, swept_none c.requires.files_fit.0.formed c.requires.files_fit.1.numbered c.junctions_of-i.ensures.is c.requires.places_len, c.requires.unmarked)

pub returns : goal.returns
returns c = from_all c.requires.files_fit.0 c.requires.files_fit.1.numbered c.loop-i.invariant.0 c.loop-i-test.false
