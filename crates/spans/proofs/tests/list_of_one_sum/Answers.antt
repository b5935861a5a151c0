-- The list of a set of one sum has that sum alone.
use Rattle.std.proofs.Common.{sym, ◌∙◌}
use mathlib.Core.List.Memᴰ
use mathlib.Core.List.{[], ◌∷◌}
use Rattle.paths.specs.Weights.{pair, one}
use Rattle.spans.proofs.tests.list_of_one_sum.Goals as goal

pub count_below-count-requires-clause-some_list : goal.count_below-count-requires-clause-some_list
count_below-count-requires-clause-some_list g c =
    record {
      list = pair 300 7 ∷ [];
      right =
          record {
            rising = one;
            real = λ m. let is = Memᴰ.eq_of_singleton m in record { among = is; unbeaten = λ q among b. b.smaller (among ∙ sym is) };
            complete = λ u. Memᴰ.head u.among;
          };
    }
