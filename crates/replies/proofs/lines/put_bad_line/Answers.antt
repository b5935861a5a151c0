-- The line is spelled out.
use Rattle.std.proofs.Common.{rules}
use Rattle.text.specs.Numbers.{numeral, digits_before}
use Rattle.replies.specs.Lines.{bad_line}
use Rattle.replies.proofs.lines.put_bad_line.Goals as goal

pub returns-clause-put : goal.returns-clause-put
unfolding bad_line numeral digits_before
returns-clause-put c = record { put = c.put_bytes.ensures.put; short = search rules }
