-- The list of a set's unbeaten pairs, and which sets have the trade-off list of two junctions.
-- In this order: a set that stands for all paths; the lists between two junctions; the best below a bound.
use mathlib.Core.Path.{◌≡◌, refl, subst}
use mathlib.Core.List.Memᴰ
use mathlib.Core.List.{List, []}
use Prim.Native.Nat.{ℕ, ◌-◌, ◌<◌}
use Rattle.std.specs.Prelude.{Result}
use Rattle.paths.specs.Weights.{weights, energy, Rising}
use Rattle.paths.specs.Network.{weight}
use Rattle.paths.specs.TradeOff.{Skyline, IsTradeOff}
use Rattle.paths.specs.Forest.{Common}
use Rattle.paths.proofs.Figures.{number_lawful}
use Rattle.paths.proofs.Weights.{weights_lawful, unbeaten-below}
use Rattle.paths.proofs.Crossing.{apart-without-common}
use Rattle.paths.proofs.Existence.{trade_off_exists}
use Rattle.paths.specs.declared.pair.Pair.{Pair}
use Rattle.lists.specs.Entries.{Weight}
use Rattle.network.specs.NetworkFile.{network_of, junctions_of}
use Rattle.network.proofs.Arcs.{network_finite}
use Rattle.forest.specs.LabelFile.{parents_of}
use Rattle.stored.proofs.Passed.{parents-forest, roads_joined}
use Rattle.query.specs.declared.NoAnswer.{NoAnswer}
use Rattle.query.specs.declared.Between.{Between}
use Rattle.query.specs.declared.Between.TheVariants.{Nothing, List as OneList, Lists as TwoLists}
use Rattle.query.specs.working.Prepared.{Prepared}
use Rattle.query.specs.working.AnswerValues.{number_of, time_of, energy_of}
use Rattle.query.specs.working.Between.{ListsBetween, Leads}
use Rattle.query.specs.working.Sums.{SumIn, Row}
use Rattle.query.specs.Answers.{Answers}
use Rattle.query.proofs.WholeAnswers.{StandsFor, row_fits, row_stands, list-between-right, list-between-fits, answer_lists}
use Rattle.spans.specs.declared.Span.{Span}
use Rattle.spans.specs.working.Below.{UnbeatenOf, ListOf}
use Rattle.tradeoffs.specs.working.Tells.{Tells}
use Rattle.tradeoffs.specs.working.Noting.{NextBelow}
use Rattle.spans.specs.working.Written.{SomeList}

-- ---- A set that stands for all paths

module _ {net : List ℕ} {x y : ℕ} {Has : Weight → Type 0} (stands : StandsFor net x y Has) where
  -- a pair that no path beats is one of the set, and none of it beats it
  line-unbeaten : {p : Weight} → Skyline (network_of net) x y p → UnbeatenOf Has p
  line-unbeaten {p} line =
      let z = stands.below line.walk in
      let w = stands.real z.among in
      let same : z.one ≡ p = unbeaten-below number_lawful (rw line.weighs at z.no_larger) (λ b. line.unbeaten w.walk (rw w.weighs b)) in
      record {
        among = subst Has same z.among;
        unbeaten = λ q h b. let v = stands.real h in line.unbeaten v.walk (rw v.weighs b);
      }

  -- and back: a path that beats it lies above a pair of the set that does
  unbeaten-line : {p : Weight} → UnbeatenOf Has p → Skyline (network_of net) x y p
  unbeaten-line {p} u =
      let w = stands.real u.among in
      record {
        walk = w.walk;
        weighs = w.weighs;
        unbeaten =
            λ other b.
            let z = stands.below other in
            let low : (weights energy).◌⊑◌ z.one p = (weights_lawful number_lawful).⊑_trans z.no_larger b.no_larger in
            let same : z.one ≡ p = unbeaten-below number_lawful low (λ c. u.unbeaten z.one z.among c) in
            b.smaller ((weights_lawful number_lawful).⊑_antisym b.no_larger (subst (λ q. (weights energy).◌⊑◌ q (weight other)) same z.no_larger));
      }

  -- so its list is the trade-off list
  pub stands-right : {l : List Weight} → ListOf Has l → IsTradeOff (network_of net) x y l
  stands-right list =
      record { rising = list.rising; real = λ m. unbeaten-line (list.real m); complete = λ line. list.complete (line-unbeaten line) }

  pub stands-list : {l : List Weight} → IsTradeOff (network_of net) x y l → ListOf Has l
  stands-list right =
      record { rising = right.rising; real = λ m. line-unbeaten (right.real m); complete = λ u. right.complete (unbeaten-line u) }

-- ---- The lists between two junctions

-- junctions of two trees have no path
apart-right :
    {net labels depths tables : List ℕ} {x y : ℕ} → Prepared net labels depths tables → ((u : ℕ) → Common (parents_of labels) x y u → ⊥) →
    IsTradeOff (network_of net) x y []
apart-right {labels = labels} prepared apart =
    record {
      rising = Rising.none;
      real = λ m. absurd (Memᴰ.not-nil m);
      complete =
          λ line.
          absurd (apart-without-common (parents_of labels) (roads_joined prepared.beside) (parents-forest prepared.beside) apart line.walk);
    }

module _ {net labels depths tables : List ℕ} (prepared : Prepared net labels depths tables) {x y : ℕ} where
  -- on an accepted set the list that is told is the trade-off list
  pub tells_right : (lists : Between) → Leads labels x y lists → {l : List Weight} → Tells labels lists l → IsTradeOff (network_of net) x y l
  tells_right Nothing led told = rw told (apart-right prepared led)
  tells_right (OneList at) led told = rw told.is (list-between-right prepared led)
  tells_right (TwoLists near far levels meeting) led told = stands-right (row_stands prepared led) told.is

module _ {net labels depths tables : List ℕ} (prepared : Prepared net labels depths tables) (x y : ℕ) where
  -- and there is one
  pub tells_some : (lists : Between) → Leads labels x y lists → SomeList (Tells labels lists)
  tells_some Nothing led = record { list = []; right = refl }
  tells_some (OneList at) led =
      record { list = _; right = record { fits = list-between-fits prepared.beside.formed led; is = refl } }
  tells_some (TwoLists near far levels meeting) led =
      let z = trade_off_exists number_lawful (network_finite net) x y in
      record { list = z.list; right = record { fits = row_fits prepared led; is = stands-list (row_stands prepared led) z.is_trade_off } }

-- ---- The best below a bound

module _ {net labels depths tables : List ℕ} (prepared : Prepared net labels depths tables) {x y : ℕ} (x_on_map : x < junctions_of labels)
    (y_on_map : y < junctions_of labels) where
  -- where two branches meet it is the answer of a query under the limit one below
  pub next_answer :
      {near far levels meeting bound : ℕ} {next : Result Pair NoAnswer} {span : Span} {leasts : List ℕ} → ListsBetween labels x y near far levels meeting →
      NextBelow (SumIn labels (Row labels near far levels)) bound next span leasts → Answers net x y (bound - 1) (number_of next) (time_of next) (energy_of next)
  next_answer two below = answer_lists prepared x_on_map y_on_map two below.answers
