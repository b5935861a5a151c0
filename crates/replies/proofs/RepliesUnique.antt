-- The program can print one text alone.
-- In this order: one reply per line; where lines start; the replies to all lines; the whole.
use mathlib.Core.Path.{◌≡◌, refl, sym, ap, ◌∙◌}
use mathlib.Core.List.{List, ◌++◌}
use Prim.Native.Nat.{ℕ, suc, ◌-◌, ◌≤◌, ◌<◌}
use native.Mathlib.Decide.{dec_lt}
use native.Mathlib.Omega.{arith}
use lib.ListN.{length, get_or}
use Rattle.text.specs.Lines.{LineEnds, newline_byte}
use Rattle.text.proofs.ReadingUnique.{SameQuery, query_unique}
use Rattle.paths.specs.Weights.{pair}
use Rattle.paths.specs.Route.{FirstRoute}
use Rattle.paths.proofs.Route.{first_route_unique}
use Rattle.network.specs.NetworkFile.{network_of, junctions_of, roads_of}
use Rattle.forest.specs.LabelFile.{entries_of}
use Rattle.query.specs.Answers.{Answers}
use Rattle.query.proofs.AnswersUnique.{SameAnswer, answers_unique}
use Rattle.accepted.proofs.CheckUnique.{check_unique}
use Rattle.replies.specs.Lines.{heading_line, refused_line}
use Rattle.replies.specs.Reply.{Reply, bad, refused, answered}
use Rattle.replies.specs.Printed.{Replies, none, more, Printed}
use Rattle.replies.specs.Printed as printed

-- ---- One reply per line

module _ {net : List ℕ} {s t limit s' t' limit' : ℕ} (same : SameQuery s t limit s' t' limit') where
  -- the answer of the same query
  same_answer :
      {number time energy number' time' energy' : ℕ} → Answers net s t limit number time energy → Answers net s' t' limit' number' time' energy' →
      SameAnswer number time energy number' time' energy'
  same_answer a b = answers_unique net s' t' limit' (rw (same.same_s, same.same_t, same.same-limit) at a) b

  same_route :
      {time energy time' energy' : ℕ} {route route' : List ℕ} → time ≡ time' → energy ≡ energy' →
      FirstRoute (network_of net) s t (pair time energy) route → FirstRoute (network_of net) s' t' (pair time' energy') route' → route ≡ route'
  same_route e f a b = first_route_unique (rw (same.same_s, same.same_t, e, f) at a) b

-- No second reply meets a line's statement
pub reply_unique : {net line bytes bytes' : List ℕ} → Reply net line bytes → Reply net line bytes' → bytes ≡ bytes'
reply_unique (bad n e) (bad m f) = e ∙ sym f
reply_unique (bad n e) (refused s t limit number q a some f) = absurd (n s t limit q)
reply_unique (bad n e) (answered s t limit time energy route q a r f) = absurd (n s t limit q)
reply_unique (refused s t limit number q a some e) (bad n f) = absurd (n s t limit q)
reply_unique (refused s t limit number q a some e) (refused s' t' limit' number' q' a' some' f) =
    let same = query_unique q q' in
    let one = same_answer same a a' in
    cc (same.same_s, same.same_t, same.same-limit, one.number_is)
reply_unique (refused s t limit number q a some e) (answered s' t' limit' time energy route q' a' r f) = absurd (some (same_answer (query_unique q q') a a').number_is)
reply_unique (answered s t limit time energy route q a r e) (bad n f) = absurd (n s t limit q)
reply_unique (answered s t limit time energy route q a r e) (refused s' t' limit' number q' a' some f) = absurd (some (sym (same_answer (query_unique q q') a a').number_is))
reply_unique (answered s t limit time energy route q a r e) (answered s' t' limit' time' energy' route' q' a' r' f) =
    let same = query_unique q q' in
    let one = same_answer same a a' in
    let way = same_route same one.time_is one.energy_is r r' in
    cc (same.same_s, same.same_t, same.same-limit, one.time_is, one.energy_is, way)

-- ---- Where lines start

-- all lines end where the input does
no_sooner :
    {input : List ℕ} {a b end end' : ℕ} → LineEnds input a end → LineEnds input b end' → b < length input → length input ≤ suc end → end < end' → ⊥
no_sooner {end = end} one two inside all h = two.no_newline end (omega arith) h (one.newline (omega (arith, two.inside)))

module _ {net input : List ℕ} {from : ℕ} where
  forward : {next : ℕ} {bytes : List ℕ} → Replies net input from next bytes → from ≤ next
  forward none = omega arith
  forward (more so_far left ends reply) = omega (arith, forward so_far, ends.forward)

  -- every later line starts behind a newline
  behind-newline : {next : ℕ} {bytes : List ℕ} → Replies net input from next bytes → from < next → next < length input → get_or input (next - 1) 0 ≡ newline_byte
  behind-newline none later inside = absurd (omega arith)
  behind-newline (more {next} {end} so_far left ends reply) later inside =
      let e : suc end - 1 ≡ end = omega arith in
      rw e (ends.newline (omega arith))

  -- two lines that end at one byte start at one byte
  no_earlier :
      {a b end : ℕ} {x y : List ℕ} → Replies net input from a x → Replies net input from b y → LineEnds input a end → LineEnds input b end →
      b < length input → a < b → ⊥
  no_earlier {a} {b} p q one two inside h =
      one.no_newline (b - 1) (omega arith) (omega (arith, two.forward)) (behind-newline q (omega (arith, forward p)) inside)

  one_start :
      {a b end : ℕ} {x y : List ℕ} → Replies net input from a x → Replies net input from b y → LineEnds input a end → LineEnds input b end →
      a < length input → b < length input → a ≡ b
  one_start {a} {b} p q one two h k = pick (dec_lt a b) (dec_lt b a)
    where
      pick : Dec (a < b) → Dec (b < a) → a ≡ b
      pick (yes l) d = absurd (no_earlier p q one two k l)
      pick (no l) (yes m) = absurd (no_earlier q p two one h m)
      pick (no l) (no m) = omega arith

  -- ---- The replies to all lines

  -- replies that go to one byte are the same
  pub replies-same : {next next' : ℕ} {x y : List ℕ} → Replies net input from next x → Replies net input from next' y → next ≡ next' → x ≡ y
  replies-same none none e = refl
  replies-same none (more q left ends reply) e = absurd (omega (arith, forward q, ends.forward))
  replies-same (more p left ends reply) none e = absurd (omega (arith, forward p, ends.forward))
  replies-same (more {next} {end} {bytes = x} {reply = r} p left ends reply) (more {next = next'} {end = end'} {bytes = y} {reply = r'} q left' ends' reply') e =
      let f : end ≡ end' = omega arith in
      let g : next ≡ next' = one_start p q (rw f at ends) ends' left left' in
      let u : x ≡ y = replies-same p q g in
      let v : r ≡ r' = reply_unique (rw (g, f) at reply) reply' in
      cc

  pub one_end :
      {next next' : ℕ} {x y : List ℕ} → Replies net input from next x → Replies net input from next' y → length input ≤ next → length input ≤ next' → next ≡ next'
  one_end none none h k = refl
  one_end none (more q left ends reply) h k = absurd (omega (arith, forward q))
  one_end (more p left ends reply) none h k = absurd (omega (arith, forward p))
  one_end (more {end = end} p left ends reply) (more {end = end'} q left' ends' reply') h k = pick (dec_lt end end') (dec_lt end' end)
    where
      pick : Dec (end < end') → Dec (end' < end) → suc end ≡ suc end'
      pick (yes l) d = absurd (no_sooner ends ends' left' h l)
      pick (no l) (yes m) = absurd (no_sooner ends' ends left k m)
      pick (no l) (no m) = omega arith

-- ---- The whole

-- No second text meets the statement of what is printed
pub printed_unique : {net labels input bytes bytes' : List ℕ} → Printed net labels input bytes → Printed net labels input bytes' → bytes ≡ bytes'
printed_unique (printed.refused c some e) (printed.refused c' some' f) = e ∙ ap refused_line (check_unique c c') ∙ sym f
printed_unique (printed.refused c some e) (printed.answered c' r all f) = absurd (some (check_unique c c'))
printed_unique (printed.answered c r all e) (printed.refused c' some f) = absurd (some (check_unique c' c))
printed_unique {net} {labels} (printed.answered c r all e) (printed.answered c' r' all' f) =
    let same = replies-same r r' (one_end r r' all all') in
    e ∙ ap (λ (l : List ℕ). heading_line (junctions_of net) (roads_of net) (entries_of labels) ++ l) same ∙ sym f
