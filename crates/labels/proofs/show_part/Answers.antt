-- The span that is shown, from its first byte on, as many bytes as it has.
use Rattle.labels.proofs.Outcomes.{part_shown}
use Rattle.labels.proofs.show_part.Goals as goal

pub returns : goal.returns
returns c = part_shown c.span_of.result c.span_of.ensures c.unwrap_or-span.ensures
