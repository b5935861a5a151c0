-- Trade-off list has one outcome: its number, the count, and every lent place.
use mathlib.Core.Path.{◌≡◌, refl, sym, ap, ◌∙◌}
use mathlib.Core.Logic.{◌⊎◌, ⊎_elim}
use mathlib.Core.Bool.{cond}
use mathlib.Core.List.Memᴰ
use mathlib.Core.List.{List, [], ◌∷◌}
use Prim.Native.Nat.{ℕ, ◌≤◌, ◌<◌}
use native.Mathlib.Omega.{arith}
use lib.Dec.{leb, eqb}
use lib.ListN.{length}
use borrow.Author.Tests.{ne_eqb, le-leb}
use Rattle.std.specs.Prelude.{Result, Ok, Err}
use Rattle.paths.specs.TradeOff.{IsTradeOff}
use Rattle.paths.specs.Answer.{Apart}
use Rattle.paths.proofs.Figures.{number_lawful}
use Rattle.paths.proofs.Unique.{trade_off_unique}
use Rattle.refusals.specs.Lent.{filled, ListRefused}
use Rattle.network.specs.NetworkFile.{network_of}
use Rattle.lists.specs.Entries.{Weight, times, energies}
use Rattle.accepted.specs.declared.answers.CheckRefusal.{CheckRefusal}
use Rattle.accepted.specs.declared.answers.ListRefusal.{ListRefusal}
use Rattle.accepted.specs.declared.answers.ListRefusal.TheVariants as case
use Rattle.accepted.specs.CheckRefusals.{check_refusal_number}
use Rattle.accepted.specs.ListAnswers.{list_number_of, list_count_of, ListCase}
use Rattle.accepted.specs.List.{ListAnswered, off_map, not_connected, no_room, listed}
use Rattle.accepted.proofs.CheckUnique.{check_unique}
use Rattle.accepted.proofs.Refusals.{refusal_of, refusal_rebuilt, some_number}
use Rattle.labels.specs.List.{Listed, not_accepted, answered, ListDone}

pub record SameList (number count : ℕ) (times_after energies_after : List ℕ) (number' count' : ℕ) (times_after' energies_after' : List ℕ) : Type 0 where
  pub same_number : number ≡ number'
  pub same_count : count ≡ count'
  pub same-times : times_after ≡ times_after'
  pub same-energies : energies_after ≡ energies_after'

-- both ends are on the map, or an end is not
on_and_off : {junctions s t : ℕ} → (junctions ≤ s) ⊎ (junctions ≤ t) → s < junctions → t < junctions → ⊥
on_and_off off h k = ⊎_elim (λ z. omega arith) (λ z. omega arith) off

-- an entry is a path's
entry-joins :
    {net : List ℕ} {s t : ℕ} {list : List Weight} → IsTradeOff (network_of net) s t list → 1 ≤ length list → Apart (network_of net) s t → ⊥
entry-joins {list = []} right some apart = absurd (omega arith)
entry-joins {list = p ∷ list} right some apart = apart (right.real (Memᴰ.head refl)).walk

module _ {times_before energies_before : List ℕ} {number count number' count' : ℕ} {times_after energies_after times_after' energies_after' : List ℕ} where
  -- two refusals by one number are the same
  refusals_same :
      {by by' : ℕ} → by ≡ by' →
      ListRefused times_before energies_before number count times_after energies_after by →
      ListRefused times_before energies_before number' count' times_after' energies_after' by' →
      SameList number count times_after energies_after number' count' times_after' energies_after'
  refusals_same e r r' =
      record {
        same_number = r.number_is ∙ e ∙ sym r'.number_is;
        same_count = r.no_count ∙ sym r'.no_count;
        same-times = r.times_stay ∙ sym r'.times_stay;
        same-energies = r.energies_stay ∙ sym r'.energies_stay;
      }

  module _ {net : List ℕ} {s t : ℕ} where
    -- No second answer meets what is stated of an accepted set
    pub list_accepted_unique :
        ListAnswered net s t times_before energies_before number count times_after energies_after →
        ListAnswered net s t times_before energies_before number' count' times_after' energies_after' →
        SameList number count times_after energies_after number' count' times_after' energies_after'
    list_accepted_unique (off_map off r) (off_map off' r') = refusals_same refl r r'
    list_accepted_unique (off_map off r) (not_connected h' k' apart' r') = absurd (on_and_off off h' k')
    list_accepted_unique (off_map off r) (no_room h' k' right' some' short' r') = absurd (on_and_off off h' k')
    list_accepted_unique (off_map off r) (listed h' k' right' some' fits' e' n' f' g') = absurd (on_and_off off h' k')
    list_accepted_unique (not_connected h k apart r) (off_map off' r') = absurd (on_and_off off' h k)
    list_accepted_unique (not_connected h k apart r) (not_connected h' k' apart' r') = refusals_same refl r r'
    list_accepted_unique (not_connected h k apart r) (no_room h' k' right' some' short' r') = absurd (entry-joins right' some' apart)
    list_accepted_unique (not_connected h k apart r) (listed h' k' right' some' fits' e' n' f' g') = absurd (entry-joins right' some' apart)
    list_accepted_unique (no_room h k right some short r) (off_map off' r') = absurd (on_and_off off' h k)
    list_accepted_unique (no_room h k right some short r) (not_connected h' k' apart' r') = absurd (entry-joins right some apart')
    list_accepted_unique (no_room h k right some short r) (no_room h' k' right' some' short' r') = refusals_same refl r r'
    list_accepted_unique (no_room h k right some short r) (listed h' k' right' some' fits' e' n' f' g') = absurd (omega (arith, ap length (trade_off_unique number_lawful right right')))
    list_accepted_unique (listed h k right some fits e n f g) (off_map off' r') = absurd (on_and_off off' h k)
    list_accepted_unique (listed h k right some fits e n f g) (not_connected h' k' apart' r') = absurd (entry-joins right some apart')
    list_accepted_unique (listed h k right some fits e n f g) (no_room h' k' right' some' short' r') = absurd (omega (arith, ap length (trade_off_unique number_lawful right right')))
    list_accepted_unique (listed h k right some fits e n f g) (listed h' k' right' some' fits' e' n' f' g') =
        let one = trade_off_unique number_lawful right right' in
        record {
          same_number = e ∙ sym e';
          same_count = n ∙ ap length one ∙ sym n';
          same-times = f ∙ ap (λ l. filled times_before (times l)) one ∙ sym f';
          same-energies = g ∙ ap (λ l. filled energies_before (energies l)) one ∙ sym g';
        }

    -- No second outcome meets Trade-off list's statement
    pub list_unique :
        {labels : List ℕ} →
        Listed net labels s t times_before energies_before number count times_after energies_after →
        Listed net labels s t times_before energies_before number' count' times_after' energies_after' →
        SameList number count times_after energies_after number' count' times_after' energies_after'
    list_unique (not_accepted c k r) (not_accepted c' k' r') = refusals_same (check_unique c c') r r'
    list_unique (not_accepted c k r) (answered c' a) = absurd (k (check_unique c c'))
    list_unique (answered c a) (not_accepted c' k r) = absurd (k (check_unique c' c))
    list_unique (answered c a) (answered c' a') = list_accepted_unique a a'

-- ---- The answer itself

-- the answer that has a number and a count: 0 a list, up to 18 the check's refusal
rebuilt : ℕ → ℕ → Result ℕ ListRefusal
rebuilt number count =
    cond (eqb number 0) (Ok count)
    (cond (leb number 18) (Err (case.NotAccepted (refusal_of number)))
    (cond (eqb number 21) (Err case.OffMap)
    (cond (eqb number 22) (Err case.NotConnected) (Err case.NoRoom))))

-- an answer is the one that has its number and count
answer_rebuilt : (net labels : List ℕ) (answer : Result ℕ ListRefusal) → ListCase net labels answer → answer ≡ rebuilt (list_number_of answer) (list_count_of answer)
unfolding rebuilt
answer_rebuilt net labels (Ok count) is = refl
answer_rebuilt net labels (Err (case.NotAccepted refused)) is =
    rw (ne_eqb (check_refusal_number refused) 0 (some_number refused), le-leb (check_refusal_number refused) 18 is.at_most)
    (ap (λ (r : CheckRefusal). Err (case.NotAccepted r)) (refusal_rebuilt refused))
answer_rebuilt net labels (Err case.OffMap) is = refl
answer_rebuilt net labels (Err case.NotConnected) is = refl
answer_rebuilt net labels (Err case.NoRoom) is = refl

-- No second answer meets Trade-off list's statement
pub list_answer_unique :
    {net labels times_before energies_before times_after energies_after times_after' energies_after' : List ℕ} {s t : ℕ} {answer answer' : Result ℕ ListRefusal} →
    ListDone net labels s t times_before energies_before answer times_after energies_after →
    ListDone net labels s t times_before energies_before answer' times_after' energies_after' →
    (answer ≡ answer') × (times_after ≡ times_after') × (energies_after ≡ energies_after')
list_answer_unique {net} {labels} {answer = answer} {answer' = answer'} done done' =
    let same = list_unique done.gives done'.gives in (
      answer_rebuilt net labels answer done.case_is
          ∙ rw (same.same_number, same.same_count) (sym (answer_rebuilt net labels answer' done'.case_is)),
      same.same-times,
      same.same-energies,
    )
