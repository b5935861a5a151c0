-- The words of a line, one behind another.
-- In this order: text of bounded length; words; a route; the lines.
use mathlib.Core.Path.{◌≡◌, refl, sym, ap, ◌∙◌}
use mathlib.Core.List.{List, [], ◌∷◌, ◌++◌, append_assoc, append-nil}
use Prim.Native.Nat.{ℕ, zero, suc, ◌+◌, ◌-◌, ◌*◌, ◌≤◌, ◌<◌}
use native.Mathlib.Numerals.{add-one}
use native.Mathlib.Omega.{arith}
use lib.ListN.{length, get_or, take, drop, length-drop}
use lib.Seq.{take-suc, length-take-le, drop-append-le, get_or-take, get_or-drop}
use Rattle.text.specs.Numbers.{numeral, space_byte}
use Rattle.text.specs.Lines.{newline_byte}
use Rattle.text.specs.working.Writing.{Appended}
use Rattle.text.proofs.WritingLaws.{appended_none, appended_then, numeral-length}
use Rattle.replies.specs.Lines.{hyphen_byte, hyphens_then, hyphened, no_route, ended, ◌␣◌, answer_line, network_word, labels_word, refused_word, heading_line, refused_line}
use Rattle.replies.specs.working.Buffer.{Put, word, answer_words}

-- ---- Text of bounded length

pub put_then :
    {b x m y a : List ℕ} {at e f most more : ℕ} → Put b at x most m e → Put m e y more a f → Put b at (x ++ y) (most + more) a f
put_then one two = record { put = appended_then one.put two.put; short = omega (arith, one.short, two.short) }

pub put_known : {b x a : List ℕ} {at e most : ℕ} → length x ≤ most → Appended b at x a e → Put b at x most a e
put_known h a = record { put = a; short = omega (arith, a.ends) }

-- the same text, spelled or bounded another way
pub put_as : {b x y a : List ℕ} {at e most more : ℕ} → x ≡ y → most ≤ more → Put b at x most a e → Put b at y more a e
put_as {b} {x} {y} {a} {at} {e} eq h p = record { put = rw eq at p.put; short = omega (arith, p.short) }

-- ---- Words

pub put_numeral_known : {b a : List ℕ} {at e : ℕ} (n : ℕ) → Appended b at (numeral n) a e → Put b at (numeral n) 10 a e
put_numeral_known n a = put_known (numeral-length n) a

pub put_byte_known : {b a : List ℕ} {at e byte : ℕ} → Appended b at (byte ∷ []) a e → Put b at (byte ∷ []) 1 a e
put_byte_known a = put_known (omega arith) a

pub word_put :
    {b m a : List ℕ} {at e f : ℕ} (n : ℕ) → Appended b at (numeral n) m e → Appended m e (space_byte ∷ []) a f → Put b at (word n) 11 a f
word_put n number space = put_then (put_numeral_known n number) (put_byte_known space)

pub next_put :
    {b m a : List ℕ} {at e f : ℕ} (j : ℕ) → Appended b at (hyphen_byte ∷ []) m e → Appended m e (numeral j) a f → Put b at (hyphen_byte ∷ numeral j) 11 a f
next_put j hyphen number = put_then (put_byte_known hyphen) (put_numeral_known j number)

-- behind a number there is room for a byte
pub behind_numeral : {b m : List ℕ} {at e : ℕ} (n : ℕ) → at + 11 ≤ length b → Appended b at (numeral n) m e → e < length m
behind_numeral n room a = omega (arith, a.one_length, a.ends, numeral-length n)

-- ---- A route

hyphens_then-more : (js : List ℕ) (j : ℕ) → hyphens_then (js ++ (j ∷ [])) ≡ hyphens_then js ++ (hyphen_byte ∷ numeral j)
unfolding hyphens_then
hyphens_then-more [] j = ap (λ (l : List ℕ). hyphen_byte ∷ l) (append-nil (numeral j))
hyphens_then-more (k ∷ js) j =
    ap (λ (l : List ℕ). hyphen_byte ∷ (numeral k ++ l)) (hyphens_then-more js j)
    ∙ ap (λ (l : List ℕ). hyphen_byte ∷ l) (sym (append_assoc (numeral k) (hyphens_then js) (hyphen_byte ∷ numeral j)))

-- behind the first junction, which stands alone, those up to the i-th are put
pub record RoutePut (b : List ℕ) (at : ℕ) (js now : List ℕ) (i end : ℕ) : Type 0 where
  pub room : at + 11254 ≤ length b
  pub some : 1 ≤ i
  pub few : i ≤ 1024
  pub inside : length js ≡ 1024
  pub so_far : Put b at (hyphens_then (drop 1 (take i js))) (11 * i - 11) now end

pub route-start :
    {b js now : List ℕ} {at end : ℕ} (j : ℕ) → at + 11264 ≤ length b → length js ≡ 1024 → Appended b at (numeral j) now end → RoutePut now end js now 1 end
unfolding hyphens_then
route-start {js = []} j room h a = absurd (omega arith)
route-start {js = k ∷ js} j room h a =
    record {
      room = omega (arith, a.ends, a.one_length, numeral-length j);
      some = omega arith;
      few = omega arith;
      inside = h;
      so_far = put_known (omega arith) appended_none;
    }

pub route-more :
    {b js now after : List ℕ} {at i end next : ℕ} → RoutePut b at js now i end → i < 1024 →
    Put now end (hyphen_byte ∷ numeral (get_or js i 0)) 11 after next → RoutePut b at js after (i + 1) next
route-more {js = js} {i = i} held below more =
    record {
      room = held.room;
      some = omega arith;
      few = omega arith;
      inside = held.inside;
      so_far = put_as (sym (hyphens_then-more (drop 1 (take i js)) (get_or js i 0)) ∙ ap hyphens_then (sym step)) (omega (arith, held.some)) (put_then held.so_far more);
    }
  where
    step : drop 1 (take (i + 1) js) ≡ drop 1 (take i js) ++ (get_or js i 0 ∷ [])
    step =
        rw (add-one, take-suc js i 0 (omega (arith, held.inside)))
        (drop-append-le 1 (take i js) (get_or js i 0 ∷ []) (omega (arith, length-take-le i js (omega (arith, held.inside, held.few)), held.some)))

-- the junctions behind the first
pub behind-length : (count : ℕ) (js : List ℕ) → count ≤ 1024 → length js ≡ 1024 → length (take (count - 1) (drop 1 js)) ≡ count - 1
behind-length count js few inside = length-take-le (count - 1) (drop 1 js) (omega (arith, length-drop 1 js))

pub route-behind :
    {b js now after : List ℕ} {at end next count k : ℕ} → RoutePut b at js now (k + 1) end → count ≤ 1024 → k < count - 1 →
    Put now end (hyphen_byte ∷ numeral (get_or (take (count - 1) (drop 1 js)) k 0)) 11 after next → RoutePut b at js after (k + 1 + 1) next
route-behind {js = js} {count = count} {k = k} held few below put = route-more held (omega arith) (rw here at put)
  where
    back : 1 + k ≡ k + 1
    back = omega arith

    here : get_or (take (count - 1) (drop 1 js)) k 0 ≡ get_or js (k + 1) 0
    here = get_or-take (count - 1) (drop 1 js) k 0 below ∙ get_or-drop 1 js k 0 ∙ ap (λ (n : ℕ). get_or js n 0) back

pub route-room : {b js now : List ℕ} {at i end : ℕ} → RoutePut b at js now i end → i < 1024 → end + 11 ≤ length now
route-room held below = omega (arith, held.room, held.some, held.so_far.short, held.so_far.put.one_length)

-- the first junction and those behind it
hyphened_cons : (js : List ℕ) (count : ℕ) → 1 ≤ count → 1 ≤ length js → numeral (get_or js 0 0) ++ hyphens_then (drop 1 (take count js)) ≡ hyphened (take count js)
unfolding hyphened
hyphened_cons [] count h k = absurd (omega arith)
hyphened_cons (j ∷ js) zero h k = absurd (omega arith)
hyphened_cons (j ∷ js) (suc count) h k = refl

pub route-whole :
    {b b' js now : List ℕ} {at first i end count : ℕ} → Appended b at (numeral (get_or js 0 0)) b' first → RoutePut b' first js now i end → count ≤ i →
    i ≤ count → Put b at (hyphened (take count js)) 11264 now end
route-whole {js = js} {i = i} {count = count} one held h k =
    put_as (ap (λ (n : ℕ). numeral (get_or js 0 0) ++ hyphens_then (drop 1 (take n js))) e ∙ hyphened_cons js count (omega (arith, held.some)) (omega (arith, held.inside)))
    (omega (arith, held.few))
    (put_then (put_numeral_known (get_or js 0 0) one) held.so_far)
  where
    e : i ≡ count
    e = omega arith

-- ---- The lines

-- a word and its space in front of what follows
before : (w rest : List ℕ) → (w ++ (space_byte ∷ [])) ++ rest ≡ w ␣ rest
before w rest = append_assoc w (space_byte ∷ []) rest

pub word_then :
    {b m rest a : List ℕ} {at e f most more : ℕ} (w : List ℕ) → Put b at (w ++ (space_byte ∷ [])) most m e → Put m e rest more a f → Put b at (w ␣ rest) (most + more) a f
word_then {rest = rest} w one two = put_as (before w rest) (omega arith) (put_then one two)

pub words_put :
    {b m m₂ m₃ m₄ m₅ a : List ℕ} {at e e₂ e₃ e₄ e₅ f : ℕ} (s t limit number time energy : ℕ) →
    Put b at (word s) 11 m e → Put m e (word t) 11 m₂ e₂ → Put m₂ e₂ (word limit) 11 m₃ e₃ → Put m₃ e₃ (word number) 11 m₄ e₄ →
    Put m₄ e₄ (word time) 11 m₅ e₅ → Put m₅ e₅ (word energy) 11 a f → Put b at (answer_words s t limit number time energy) 66 a f
unfolding answer_words
words_put s t limit number time energy p q r u v w =
    word_then (numeral s) p
    (word_then (numeral t) q (word_then (numeral limit) r (word_then (numeral number) u (word_then (numeral time) v w))))

-- the words before the route, and the route
line_is :
    (s t limit number time energy : ℕ) (route : List ℕ) →
    answer_words s t limit number time energy ++ ended route ≡ answer_line s t limit number time energy route
unfolding answer_words answer_line
line_is s t limit number time energy route = simp append_assoc

pub refused_line_put :
    {b m a : List ℕ} {at e f : ℕ} (s t limit number : ℕ) →
    Put b at (answer_words s t limit number 0 0) 66 m e → Appended m e (hyphen_byte ∷ (newline_byte ∷ [])) a f → Put b at (answer_line s t limit number 0 0 no_route) 68 a f
refused_line_put s t limit number words rest =
    put_as (line_is s t limit number 0 0 no_route) (omega arith) (put_then words (put_known {most = 2} (omega arith) rest))

pub found_line_put :
    {b m k a route : List ℕ} {at e g f : ℕ} (s t limit time energy : ℕ) →
    Put b at (answer_words s t limit 0 time energy) 66 m e → Put m e route 11264 k g → Appended k g (newline_byte ∷ []) a f →
    Put b at (answer_line s t limit 0 time energy route) 11344 a f
found_line_put {route = route} s t limit time energy words way rest =
    put_as (line_is s t limit 0 time energy route) (omega arith) (put_then words (put_then way (put_byte_known rest)))

pub heading_put :
    {b m m₂ m₃ m₄ m₅ a : List ℕ} {at e e₂ e₃ e₄ e₅ f : ℕ} (n roads E : ℕ) →
    Appended b at (network_word ++ (space_byte ∷ [])) m e → Put m e (word n) 11 m₂ e₂ → Put m₂ e₂ (word roads) 11 m₃ e₃ →
    Appended m₃ e₃ (labels_word ++ (space_byte ∷ [])) m₄ e₄ → Appended m₄ e₄ (numeral E) m₅ e₅ → Appended m₅ e₅ (newline_byte ∷ []) a f →
    Put b at (heading_line n roads E) 64 a f
unfolding heading_line
heading_put n roads E p q r u v w =
    put_as refl (omega arith)
    (word_then network_word (put_known {most = 8} (omega arith) p)
    (word_then (numeral n) q
    (word_then (numeral roads) r
    (word_then labels_word (put_known {most = 7} (omega arith) u) (put_then (put_numeral_known E v) (put_byte_known w))))))

pub refused_put :
    {b m k a : List ℕ} {at e g f : ℕ} (number : ℕ) →
    Appended b at (refused_word ++ (space_byte ∷ [])) m e → Appended m e (numeral number) k g → Appended k g (newline_byte ∷ []) a f →
    Put b at (refused_line number) 64 a f
unfolding refused_line
refused_put number p q r =
    put_as refl (omega arith) (word_then refused_word (put_known {most = 8} (omega arith) p) (put_then (put_numeral_known number q) (put_byte_known r)))
