-- `replies::program::answer_input`: the refusal alone is handed on, or the heading and the replies to what was read.
use native.Mathlib.Omega.{arith}
use mathlib.Core.Path.{refl}
use Rattle.accepted.proofs.Accepted.{ready_for_queries}
use Rattle.replies.proofs.HandingOn.{refusal_handed, answers_handed}
use Rattle.replies.proofs.program.answer_input.Goals as goal

pub hand_on-first-requires : goal.hand_on-first-requires
hand_on-first-requires c = (omega (arith, c.begin-begun.ensures.inside), omega (arith, c.begin-begun.ensures.places), omega arith)

pub returns-then-begun-ne0 : goal.returns-then-begun-ne0
returns-then-begun-ne0 c = refusal_handed c.begin-begun.ensures (omega arith) c.if-begun-ne0.true

pub print_replies-total-requires : goal.print_replies-total-requires
print_replies-total-requires c =
    record {
      prepared = ready_for_queries c.begin-begun.ensures.accepting c.if-begun-ne0.false;
      input_len_bound = (
        omega (arith, c.first_bytes.ensures.counted, c.read_full-count.ensures.0, c.read_full-count.auto.buf),
        c.begin-begun.ensures.places,
        omega (arith, c.hand_on-first.ensures, c.begin-begun.ensures.inside, c.begin-begun.ensures.places),
      );
    }

pub returns : goal.returns
returns c = answers_handed c.begin-begun.ensures (omega (arith, c.hand_on-first.ensures)) c.if-begun-ne0.false c.first_bytes.ensures refl c.print_replies-total.ensures
