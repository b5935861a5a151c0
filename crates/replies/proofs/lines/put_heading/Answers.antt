-- The words of the heading, one behind another.
use Rattle.std.proofs.Common.{arith}
use Rattle.replies.proofs.LineLaws.{behind_numeral, heading_put}
use Rattle.replies.proofs.lines.put_heading.Goals as goal

pub put_byte-requires : goal.put_byte-requires
put_byte-requires c =
    behind_numeral _
    (omega (
      arith,
      c.put_bytes.ensures.put.ends,
      c.put_bytes.ensures.put.one_length,
      c.put_word.ensures.put.short,
      c.put_word.ensures.put.put.one_length,
      c.put_word-2.ensures.put.short,
      c.put_word-2.ensures.put.put.one_length,
      c.put_bytes-2.ensures.put.ends,
      c.put_bytes-2.ensures.put.one_length,
    ))
    c.put_numeral.ensures.put

pub returns-clause-put : goal.returns-clause-put
returns-clause-put c = heading_put _ _ _ c.put_bytes.ensures.put c.put_word.ensures.put c.put_word-2.ensures.put c.put_bytes-2.ensures.put
    c.put_numeral.ensures.put c.put_byte.ensures.put
