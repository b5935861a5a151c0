-- From any list of weights to its unbeaten members, each once, in rising order; from any two lists to their join.
-- In this order: lists of all that has a property; all sums; sorting; the skyline of a list; joins.
use mathlib.Core.Path.{◌≡◌, refl, sym, ◌∙◌}
use mathlib.Core.Logic.Dec
use mathlib.Core.Logic.{◌⊎◌, inl, inr, ⊎_elim}
use mathlib.Core.List.Memᴰ
use mathlib.Core.List.{List, [], ◌∷◌, ◌++◌, Memᴰ}
use Rattle.paths.specs.Figures.{Figures, Lawful}
use Rattle.paths.specs.Weights.{Found, Covered, weights, Beats, Rising, none, one, more}
use Rattle.paths.specs.TradeOff.{IsSum, IsJoin}
use Rattle.paths.proofs.Decisions.{map?}
use Rattle.paths.proofs.Weights.{weights_lawful, same?}
use Rattle.paths.proofs.Covering.{found?, covered-stands, all_covered}
use Rattle.paths.proofs.Rising.{rising_tail, rising_cons, rising-head}

-- ---- Lists of all that has a property

module _ {A : Type 0} (P : A → Type 0) where
  -- a list of what has P and of nothing else
  pub record Listing : Type 0 where
    pub list : List A
    pub only : {a : A} → Memᴰ a list → P a
    pub all : {a : A} → P a → Memᴰ a list

module _ {A : Type 0} where
  unfoldable pub listing_one : (x : A) → Listing (λ a. a ≡ x)
  listing_one x = record { list = x ∷ []; only = λ m. Memᴰ.eq_of_singleton m; all = λ e. Memᴰ.head e }

-- One thing, listed where a decided condition holds
module _ {A C : Type 0} where
  unfoldable pub listing_if : Dec C → (x : A) → Listing (λ a. C × (a ≡ x))
  listing_if (yes c) x = record { list = x ∷ []; only = λ m. (c, Memᴰ.eq_of_singleton m); all = λ h. Memᴰ.head h.1 }
  listing_if (no n) x = record { list = []; only = λ m. absurd (Memᴰ.not-nil m); all = λ h. absurd (n h.0) }

-- All that some member of a list is related to, where each thing alone has a list of what it is related to
module _ {A B : Type 0} (R : A → B → Type 0) where
  unfoldable pub listing_gather : ((a : A) → Listing (R a)) → (l : List A) → Listing (λ b. Found (λ a. R a b) l)
  listing_gather each [] =
      record { list = []; only = λ m. absurd (Memᴰ.not-nil m); all = λ f. absurd (Memᴰ.not-nil f.member) }
  listing_gather each (x ∷ l) = append (each x) (listing_gather each l)
    where
      append : Listing (R x) → Listing (λ b. Found (λ a. R a b) l) → Listing (λ b. Found (λ a. R a b) (x ∷ l))
      append i r =
          record {
            list = i.list ++ r.list;
            only =
                λ m.
                ⊎_elim
                (λ k. record { entry = x; member = Memᴰ.head refl; has = i.only k })
                (λ k. let f = r.only k in record { entry = f.entry; member = Memᴰ.tail f.member; has = f.has })
                (Memᴰ.append_cases i.list m);
            all =
                λ f.
                ⊎_elim
                (λ e. Memᴰ.append_left r.list (i.all (rw e at f.has)))
                (λ k. Memᴰ.append_right i.list (r.all (record { entry = f.entry; member = k; has = f.has })))
                (Memᴰ.cases_cons f.member);
          }

-- The members of a list that have a decided property
module _ {A : Type 0} (P : A → Type 0) where
  pub record Chosen (l : List A) (a : A) : Type 0 where
    pub member : Memᴰ a l
    pub has : P a

  unfoldable pub listing_chosen : ((a : A) → Dec (P a)) → (l : List A) → Listing (Chosen l)
  unfolding listing_gather listing_if
  listing_chosen decide l =
      let g = listing_gather (λ a b. P a × (b ≡ a)) (λ a. listing_if (decide a) a) l in
      record {
        list = g.list;
        only = λ m. let f = g.only m in record { member = Memᴰ.cast f.has.1 f.member; has = rw f.has.1 f.has.0 };
        all = λ c. g.all (record { entry = _; member = c.member; has = (c.has, refl) });
      }

-- ---- Lists of weights: all sums, and what is shown to exist below

module _ (𝓛 : Figures) where
  open weights 𝓛 use {Figure as Weight, ◌⊕◌}

  infixl 60 ◌⊕◌
  -- All sums of an entry of k and an entry of l
  unfoldable pub listing_sums : (k l : List Weight) → Listing (IsSum 𝓛 k l)
  unfolding listing_gather listing_one
  listing_sums k l =
      record {
        list = sums.list;
        only =
            λ m.
            let f = sums.only m in
            record { left = f.entry; right = f.has.entry; in_first = f.member; in_second = f.has.member; adds = sym f.has.has };
        all =
            λ s.
            sums.all
            (record { entry = s.left; member = s.in_first; has = record { entry = s.right; member = s.in_second; has = sym s.adds } });
      }
    where
      right-sums : (a : Weight) → Listing (λ p. Found (λ b. p ≡ a ⊕ b) l)
      right-sums a = listing_gather (λ b p. p ≡ a ⊕ b) (λ b. listing_one (a ⊕ b)) l

      sums : Listing (λ p. Found (λ a. Found (λ b. p ≡ a ⊕ b) l) k)
      sums = listing_gather (λ a p. Found (λ b. p ≡ a ⊕ b) l) right-sums k

  -- The members of m, each once, in rising order
  pub record Sorted (m : List Weight) : Type 0 where
    pub list : List Weight
    pub rising : Rising 𝓛 list
    pub only : {p : Weight} → Memᴰ p list → Memᴰ p m
    pub all : {p : Weight} → Memᴰ p m → Memᴰ p list

  -- The members of m that no member of m beats, in rising order; below each member of m lies one of them
  pub record SkylineOf (m : List Weight) : Type 0 where
    pub list : List Weight
    pub rising : Rising 𝓛 list
    pub from : {p : Weight} → Memᴰ p list → Memᴰ p m
    pub unbeaten : {p q : Weight} → Memᴰ p list → Memᴰ q m → Beats 𝓛 q p → ⊥
    pub covers : {p : Weight} → Memᴰ p m → Covered 𝓛 list p

  -- The join of k and l, with its proof
  pub record Joins (k l : List Weight) : Type 0 where
    pub list : List Weight
    pub is_join : IsJoin 𝓛 k l list

module _ {𝓛 : Figures} (lawful : Lawful 𝓛) where
  abbrev W : Lawful (weights 𝓛)
  W = weights_lawful lawful

  open weights 𝓛 use {Figure as Weight, ◌⊕◌, ◌⊑◌, ◌≺◌}

  infixl 60 ◌⊕◌
  infix 40 ◌⊑◌
  infix 40 ◌≺◌
  -- ---- Sorting, by putting one entry after another into its place

  unfoldable pub insert : (x : Weight) (l : List Weight) → Rising 𝓛 l → Sorted 𝓛 (x ∷ l)
  unfolding weights_lawful
  insert x [] r = record { list = x ∷ []; rising = one; only = λ m. m; all = λ m. m }
  insert x (y ∷ l) r = pick (W.≺_compare x y) (insert x l (rising_tail r))
    where
      pick : (x ≺ y) ⊎ ((x ≡ y) ⊎ (y ≺ x)) → Sorted 𝓛 (x ∷ l) → Sorted 𝓛 (x ∷ y ∷ l)
      pick (inl h) z = record { list = x ∷ y ∷ l; rising = more h r; only = λ m. m; all = λ m. m }
      pick (inr (inl e)) z =
          record {
            list = y ∷ l;
            rising = r;
            only = λ m. Memᴰ.tail m;
            all = λ m. ⊎_elim (λ f. Memᴰ.head (f ∙ e)) (λ k. k) (Memᴰ.cases_cons m);
          }
      pick (inr (inr h)) z =
          record {
            list = y ∷ z.list;
            rising = rising_cons (λ q m. ⊎_elim (λ e. rw e h) (λ k. rising-head lawful r k) (Memᴰ.cases_cons (z.only m))) z.rising;
            only =
                λ m.
                ⊎_elim
                (λ e. Memᴰ.tail (Memᴰ.head e))
                (λ k. ⊎_elim (λ e. Memᴰ.head e) (λ j. Memᴰ.tail (Memᴰ.tail j)) (Memᴰ.cases_cons (z.only k)))
                (Memᴰ.cases_cons m);
            all =
                λ m.
                ⊎_elim
                (λ e. Memᴰ.tail (z.all (Memᴰ.head e)))
                (λ k. ⊎_elim (λ e. Memᴰ.head e) (λ j. Memᴰ.tail (z.all (Memᴰ.tail j))) (Memᴰ.cases_cons k))
                (Memᴰ.cases_cons m);
          }

  unfoldable pub sorted : (m : List Weight) → Sorted 𝓛 m
  unfolding insert
  sorted [] = record { list = []; rising = none; only = λ k. k; all = λ k. k }
  sorted (x ∷ m) = pick (sorted m)
    where
      pick : Sorted 𝓛 m → Sorted 𝓛 (x ∷ m)
      pick z =
          let y = insert x z.list z.rising in
          record {
            list = y.list;
            rising = y.rising;
            only = λ k. ⊎_elim (λ e. Memᴰ.head e) (λ j. Memᴰ.tail (z.only j)) (Memᴰ.cases_cons (y.only k));
            all = λ k. y.all (⊎_elim (λ e. Memᴰ.head e) (λ j. Memᴰ.tail (z.all j)) (Memᴰ.cases_cons k));
          }

  -- ---- The skyline of a list

  -- beating is decided, since ⊑ and equality are
  unfoldable pub beats? : (p q : Weight) → Dec (Beats 𝓛 p q)
  unfolding map? Dec.and Dec.not same? weights_lawful
  beats? p q =
      map? (λ z. record { no_larger = z.0; smaller = z.1 }) (λ b. (b.no_larger, b.smaller))
      (Dec.and (W.⊑_decide p q) (Dec.not (same? W p q)))

  -- the members that no member beats, sorted
  unfoldable pub skyline_of : (m : List Weight) → SkylineOf 𝓛 m
  unfolding listing_chosen found? beats? Dec.not sorted
  skyline_of m =
      record {
        list = order.list;
        rising = order.rising;
        from = λ k. (unbeaten.only (order.only k)).member;
        unbeaten = λ {p} {q} k j b. (unbeaten.only (order.only k)).has (record { entry = q; member = j; has = b });
        covers = all_covered lawful (λ p. Memᴰ p m) order.list holds;
      }
    where
      Beaten : Weight → Type 0
      Beaten p = Found (λ q. Beats 𝓛 q p) m

      unbeaten : Listing (Chosen (λ p. Beaten p → ⊥) m)
      unbeaten = listing_chosen (λ p. Beaten p → ⊥) (λ p. Dec.not (found? (λ q. Beats 𝓛 q p) (λ q. beats? q p) m)) m

      order : Sorted 𝓛 unbeaten.list
      order = sorted unbeaten.list

      holds : (p : Weight) → Memᴰ p m → ((q : Weight) → Memᴰ q m → Beats 𝓛 q p → ⊥) → Memᴰ p order.list
      holds p k free = order.all (unbeaten.all (record { member = k; has = λ f. free f.entry f.member f.has }))

  -- ---- Joins: the skyline of all sums

  unfoldable pub join_exists : (k l : List Weight) → Joins 𝓛 k l
  unfolding listing_sums skyline_of
  join_exists k l =
      let sums = listing_sums 𝓛 k l in
      let z = skyline_of sums.list in
      record {
        list = z.list;
        is_join =
            record {
              rising = z.rising;
              real = λ m. record { sum = sums.only (z.from m); unbeaten = λ q s b. z.unbeaten m (sums.all s) b };
              complete = λ u. covered-stands lawful (z.covers (sums.all u.sum)) (λ q m b. u.unbeaten q (sums.only (z.from m)) b);
            };
      }
