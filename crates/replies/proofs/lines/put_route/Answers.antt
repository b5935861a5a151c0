-- Each turn puts one junction more (`route-behind`).
use Rattle.std.proofs.Common.{arith, refl}
use Rattle.replies.proofs.LineLaws.{route-start, route-behind, route-whole, behind-length}
use Rattle.replies.proofs.lines.put_route.Goals as goal

pub loop-junction-init : goal.loop-junction-init
loop-junction-init c = (route-start _ c.requires.at_in_bounds c.requires.le_count.2 c.put_numeral.ensures.put, refl)

pub loop-junction-preserved : goal.loop-junction-preserved
loop-junction-preserved c =
    let long = behind-length c.args.count c.args.junctions.now c.requires.le_count.1 c.requires.le_count.2 in
    (route-behind c.loop-junction.invariant.0 c.requires.le_count.1 (omega arith) c.put_next.ensures.put, cc)

pub returns-clause-put : goal.returns-clause-put
returns-clause-put c =
    let long = behind-length c.args.count c.args.junctions.now c.requires.le_count.1 c.requires.le_count.2 in
    route-whole c.put_numeral.ensures.put c.loop-junction.invariant.0 (omega arith) (omega arith)
