-- The lists at two bytes and those behind them, level by level. In this order: one level more; the way along them; what they answer.
use mathlib.Core.Path.{◌≡◌, refl, sym, ap, ◌∙◌}
use mathlib.Core.Logic.{◌⊎◌, inl, inr, ⊎_elim}
use mathlib.Core.Bool.{true≢false}
use mathlib.Core.List.{List}
use Rattle.std.specs.Prelude.{Result}
use Rattle.paths.specs.declared.pair.Pair.{Pair}
use Prim.Native.Nat.{ℕ, ◌+◌, ◌≤◌, ◌<◌}
use native.Mathlib.Decide.{ℕ_discrete}
use native.Mathlib.Omega.{arith}
use lib.ListN.{length}
use Rattle.paths.specs.Weights.{energy, time, Within, NotLater, same, sooner, by_time, by_figures}
use Rattle.lists.specs.Entries.{Weight}
use Rattle.forest.specs.LabelFile.{list_end}
use Rattle.stored.specs.ListForm.{most_bytes}
use Rattle.stored.specs.working.Formed.{ListFits}
use Rattle.stored.specs.working.Scanned.{further}
use Rattle.stored.proofs.Places.{further-next, further-none}
use Rattle.query.specs.declared.NoAnswer.{NoAnswer}
use Rattle.query.specs.declared.across.Best.{Best}
use Rattle.query.specs.working.AnswerFrom.{AnswerFrom, found, over_limit, not_connected}
use Rattle.query.specs.working.Sums.{no_time, SumIn, Only, Row, RowFits, Placed, SomeSum, Extends, Unknown, Told, told_found, told_over, told_apart}
use Rattle.query.proofs.ListPlaces.{count-stands}
use Rattle.query.proofs.BestSums.{ListParts, extends_kept, extends_then}

-- ---- One level more

module _ {labels : List ℕ} {near far levels n f : ℕ} (near_is : n ≡ further labels near levels) (far_is : f ≡ further labels far levels) where
  pub row_parts : ListParts (Row labels near far (levels + 1)) (Row labels near far levels) (Only n f)
  row_parts =
      record {
        cases = λ a b h. pick a b h (ℕ_discrete h.level levels);
        first = λ a b h. record { level = h.level; below = omega (arith, h.below); near_is = h.near_is; far_is = h.far_is };
        second = λ a b h. record { level = levels; below = omega arith; near_is = h.near_is ∙ near_is; far_is = h.far_is ∙ far_is };
      }
    where
      pick : (a b : ℕ) (h : Row labels near far (levels + 1) a b) → Dec (h.level ≡ levels) → Row labels near far levels a b ⊎ Only n f a b
      pick a b h (yes e) =
          inr (record { near_is = h.near_is ∙ ap (further labels near) e ∙ sym near_is; far_is = h.far_is ∙ ap (further labels far) e ∙ sym far_is })
      pick a b h (no apart) = inl (record { level = h.level; below = omega (arith, h.below); near_is = h.near_is; far_is = h.far_is })

-- ---- The way along them

-- So many levels are done, and the places stand at the lists of the next
pub record Along (labels : List ℕ) (near far levels done n f : ℕ) : Type 0 where
  pub few : done ≤ levels
  pub near_is : n ≡ further labels near done
  pub far_is : f ≡ further labels far done

-- none is done at first
pub along-none : (labels : List ℕ) (near far levels : ℕ) → Along labels near far levels 0 near far
along-none labels near far levels = record { few = omega arith; near_is = sym (further-none labels near); far_is = sym (further-none labels far) }

module _ {labels : List ℕ} {near far levels done n f : ℕ} (now : Along labels near far levels done n f) (row : RowFits labels near far levels) (turn : done < levels) where
  -- both lists of the level fit
  pub along-near : ListFits labels n
  along-near = rw now.near_is (row.near_fits done turn)

  pub along_far : ListFits labels f
  along_far = rw now.far_is (row.far_fits done turn)

  -- so a step leads from each to the next
  pub near_next : (n + 2 ≤ length labels) × (length labels ≤ most_bytes)
  near_next = (count-stands along-near, row.few_bytes)

  pub far_next : (f + 2 ≤ length labels) × (length labels ≤ most_bytes)
  far_next = (count-stands along_far, row.few_bytes)

  pub along-more : {n' f' : ℕ} → n' ≡ list_end labels n → f' ≡ list_end labels f → Along labels near far levels (done + 1) n' f'
  along-more is-near is-far =
      record {
        few = omega arith;
        near_is = is-near ∙ ap (list_end labels) now.near_is ∙ sym (further-next labels near done);
        far_is = is-far ∙ ap (list_end labels) now.far_is ∙ sym (further-next labels far done);
      }

-- at the end all are done
pub along_all : {labels : List ℕ} {near far levels done n f : ℕ} → Along labels near far levels done n f → levels ≤ done → done ≡ levels
along_all now h = omega (arith, now.few)

-- What is known after the levels that are done
pub record Rowed (labels : List ℕ) (near far levels C : ℕ) (known : Best) (done n f : ℕ) (best : Best) : Type 0 where
  pub along : Along labels near far levels done n f
  pub so_far : Extends labels (Row labels near far done) C known best

-- none is done at first
pub rowed_none : (labels : List ℕ) (near far levels C : ℕ) (known : Best) → Rowed labels near far levels C known 0 near far known
rowed_none labels near far levels C known =
    record {
      along = along-none labels near far levels;
      so_far = extends_kept (λ some. omega (arith, some.among.lists.below));
    }

module _ {labels : List ℕ} {near far levels C : ℕ} {known : Best} {done n f : ℕ} {best : Best} (now : Rowed labels near far levels C known done n f best)
    (row : RowFits labels near far levels) (turn : done < levels) where
  -- one level more is done
  pub rowed_more :
      {n' f' : ℕ} {best' : Best} → Extends labels (Only n f) C best best' → n' ≡ list_end labels n → f' ≡ list_end labels f →
      Rowed labels near far levels C known (done + 1) n' f' best'
  rowed_more here is-near is-far =
      record {
        along = along-more now.along row turn is-near is-far;
        so_far = extends_then (row_parts now.along.near_is now.along.far_is) now.so_far here;
      }

-- all are done
pub rowed_all :
    {labels : List ℕ} {near far levels C : ℕ} {known : Best} {done n f : ℕ} {best : Best} → Rowed labels near far levels C known done n f best → levels ≤ done →
    Extends labels (Row labels near far levels) C known best
rowed_all now h = rw (along_all now.along h) at now.so_far

-- ---- What they answer

-- what takes longer is later
late-clash : {p q : Weight} → NotLater energy p q → time energy q < time energy p → ⊥
late-clash (sooner (by_time less)) h = omega arith
late-clash (sooner (by_figures e less)) h = omega arith
late-clash (same e) h = omega (arith, ap (time energy) e)

module _ {labels : List ℕ} {near far levels C : ℕ} {known best : Best} (row : RowFits labels near far levels) (unknown : Unknown known)
    (extends : Extends labels (Row labels near far levels) C known best) where
  -- every sum takes less than the time that nothing takes
  in_time : {p : Weight} → SumIn labels (Row labels near far levels) p → time energy p < no_time
  in_time h =
      omega (
        arith,
        ap (time energy) h.sum.adds,
        (near_fits.fitting_time h.i h.sum.in_near).1,
        (far_fits.fitting_time h.j h.sum.in_far).1,
      )
    where
      near_fits : ListFits labels h.near
      near_fits = rw h.lists.near_is (row.near_fits h.lists.level h.lists.below)

      far_fits : ListFits labels h.far
      far_fits = rw h.lists.far_is (row.far_fits h.lists.level h.lists.below)

  -- so none is within the limit where nothing was found
  none_within : best.sum.time.0 ≡ no_time → (q : Weight) → SumIn labels (Row labels near far levels) q → Within energy C q → ⊥
  none_within late q h w = late-clash (extends.improves.least q h w) (omega (arith, late, in_time h))

  -- and what was found is one
  found-placed : (best.sum.time.0 ≡ no_time → ⊥) → Placed labels (Row labels near far levels) C best.sum
  found-placed some = ⊎_elim (λ e. absurd (some (ap (λ sum. sum.time.0) e ∙ unknown.late))) (λ z. z) extends.improves.origin

  pub row_answer : {r : Result Pair NoAnswer} → Told best r → AnswerFrom (SumIn labels (Row labels near far levels)) C r
  row_answer (told_found some e) =
      let placed = found-placed some in
      rw e
      (found refl
      (record {
        among =
            record {
              near = best.sum.near;
              far = best.sum.far;
              i = best.sum.i;
              j = best.sum.j;
              lists = placed.lists;
              sum = placed.stands;
            };
        within = placed.within;
        least = extends.improves.least;
      }))
  row_answer (told_over late connected e) =
      let some : SomeSum labels (Row labels near far levels) = ⊎_elim (λ f. absurd (true≢false (sym f ∙ unknown.apart))) (λ z. z) (extends.connected connected) in
      over_limit e (record { one = some.one; among = some.among; none_within = none_within late })
  row_answer (told_apart late apart e) = not_connected e (λ q h. (extends.apart apart).1 (record { one = q; among = h }))
