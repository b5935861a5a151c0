-- A query line by its bytes and by its places, and the ways to read one: six that find it bad, one that reads it.
use mathlib.Core.Path.{◌≡◌, refl, ap, ◌∙◌, subst}
use mathlib.Core.List.{List, ◌∷◌, ◌++◌}
use Prim.Native.Nat.{ℕ, ◌+◌, ◌≤◌}
use native.Mathlib.Omega.{arith}
use lib.ListN.{length}
use Rattle.text.specs.Numbers.{space_byte}
use Rattle.text.specs.Lines.{line_of}
use Rattle.text.specs.Queries.{IsQuery}
use Rattle.text.specs.working.Reading.{query, bad}
use Rattle.text.specs.working.Reading.{QueryRead}
use Rattle.text.specs.working.Reading.{NumberAt, SpaceAt, QueryAt}
use Rattle.std.specs.declared.option.Option.TheVariants.{Some, None}
use Rattle.text.proofs.LineParts.{Cut, line_cut, line-split}
use Rattle.text.proofs.NumberSteps.{number_unique, numeral_at}

module _ {input : List ℕ} {start end : ℕ} (forward : start ≤ end) (fits : end ≤ length input) where
  -- the places of a query line
  pub query_at : {s t limit : ℕ} → IsQuery (line_of input start end) s t limit → QueryAt input start end s t limit
  query_at q =
      record {
        after_s = one.at;
        after_t = two.at;
        first = numeral_at one.forward (omega (arith, one.inside)) fits one.before q.first_is (λ h d. omega (arith, one.here, d.from_zero));
        first_space = record { inside = one.inside; space = one.here };
        second = numeral_at two.forward (omega (arith, two.inside)) fits two.before q.second_is (λ h d. omega (arith, two.here, d.from_zero));
        second_space = record { inside = two.inside; space = two.here };
        third = numeral_at (omega (arith, two.inside)) (omega arith) fits two.behind q.third_is (λ h d. omega arith);
      }
    where
      one : Cut input start end q.first space_byte (q.second ++ (space_byte ∷ q.third))
      one = line_cut input start end forward fits q.spaced

      two : Cut input (one.at + 1) end q.second space_byte q.third
      two = line_cut input (one.at + 1) end (omega (arith, one.inside)) fits one.behind

  -- the bytes of what stands at the places
  pub query_of : {s t limit : ℕ} → QueryAt input start end s t limit → IsQuery (line_of input start end) s t limit
  query_of q =
      record {
        first = line_of input start a;
        second = line_of input (a + 1) b;
        third = line_of input (b + 1) end;
        spaced = split start a q.first.run.forward q.first_space ∙ ap (λ (l : List ℕ). line_of input start a ++ (space_byte ∷ l)) (split (a + 1) b q.second.run.forward q.second_space);
        first_is = q.first.numeral;
        second_is = q.second.numeral;
        third_is = q.third.numeral;
      }
    where
      a : ℕ
      a = q.after_s

      b : ℕ
      b = q.after_t

      split : (from at : ℕ) → from ≤ at → SpaceAt input at end → line_of input from end ≡ line_of input from at ++ (space_byte ∷ line_of input (at + 1) end)
      split from at h space =
          line-split input from at h end space.inside fits
          ∙ ap (λ (byte : ℕ). line_of input from at ++ (byte ∷ line_of input (at + 1) end)) space.space

  -- a line without places is bad
  no_query : ((s t limit : ℕ) → QueryAt input start end s t limit → ⊥) → QueryRead (line_of input start end) None
  no_query none = bad (λ s t limit q. none s t limit (query_at q)) refl

  -- no first number
  pub no_first : ((s next : ℕ) → NumberAt input start end s next → ⊥) → QueryRead (line_of input start end) None
  no_first none = no_query (λ s t limit q. none s q.after_s q.first)

  module _ {s a : ℕ} (first : NumberAt input start end s a) where
    after_first : {s' t limit : ℕ} (q : QueryAt input start end s' t limit) → q.after_s ≡ a
    after_first q = (number_unique q.first first).one_end

    -- no space behind it
    pub no_first_space : (SpaceAt input a end → ⊥) → QueryRead (line_of input start end) None
    no_first_space none = no_query (λ s' t limit q. none (subst (λ (k : ℕ). SpaceAt input k end) (after_first q) q.first_space))

    second_at : {s' t limit : ℕ} (q : QueryAt input start end s' t limit) → NumberAt input (a + 1) end t q.after_t
    second_at {t = t} q = subst (λ (k : ℕ). NumberAt input (k + 1) end t q.after_t) (after_first q) q.second

    -- no second number
    pub no_second : ((t next : ℕ) → NumberAt input (a + 1) end t next → ⊥) → QueryRead (line_of input start end) None
    no_second none = no_query (λ s' t limit q. none t q.after_t (second_at q))

    module _ {t b : ℕ} (second : NumberAt input (a + 1) end t b) where
      after-second : {s' t' limit : ℕ} (q : QueryAt input start end s' t' limit) → q.after_t ≡ b
      after-second q = (number_unique (second_at q) second).one_end

      -- no space behind it
      pub no_second_space : (SpaceAt input b end → ⊥) → QueryRead (line_of input start end) None
      no_second_space none = no_query (λ s' t' limit q. none (subst (λ (k : ℕ). SpaceAt input k end) (after-second q) q.second_space))

      third_at : {s' t' limit : ℕ} (q : QueryAt input start end s' t' limit) → NumberAt input (b + 1) end limit end
      third_at {limit = limit} q = subst (λ (k : ℕ). NumberAt input (k + 1) end limit end) (after-second q) q.third

      -- no third number
      pub no_third : ((limit next : ℕ) → NumberAt input (b + 1) end limit next → ⊥) → QueryRead (line_of input start end) None
      no_third none = no_query (λ s' t' limit q. none limit end (third_at q))

      module _ {limit c : ℕ} (third : NumberAt input (b + 1) end limit c) where
        -- bytes left behind it
        pub bytes_left : (c ≡ end → ⊥) → QueryRead (line_of input start end) None
        bytes_left left = no_query (λ s' t' limit' q. left (number_unique third (third_at q)).one_end)

        pub query_stands : SpaceAt input a end → SpaceAt input b end → c ≡ end → QueryRead (line_of input start end) (Some (record { start = s; finish = t; limit = limit }))
        query_stands x y e =
            query s t limit
            (query_of
            (record {
              after_s = a;
              after_t = b;
              first = first;
              first_space = x;
              second = second;
              second_space = y;
              third = subst (NumberAt input (b + 1) end limit) e third;
            }))
            refl
