-- What is noted next below the bound is the best below it, and where nothing is noted one walk finds it.
use Rattle.std.proofs.Common.{refl, arith}
use Rattle.spans.proofs.BelowLaws.{below-noted}
use Rattle.spans.proofs.sums.next_or_why.Goals as goal

pub returns-then-second-span-clause-told : goal.returns-then-second-span-clause-told
returns-then-second-span-clause-told g c =
    record {
      long = c.requires.waiting.long;
      told = below-noted c.requires.waiting (omega arith) c.first_below-second.ensures c.if-second-span.true c.time_behind.ensures refl;
    }
