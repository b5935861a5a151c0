-- The worked examples of SCOPE 8.1 to 8.4, as statements about the definitions. `proofs/Examples.antt` proves them by one computed test.
use Rattle.std.specs.Prelude.{◌≡◌, ℕ, suc, ◌≤◌}
use mathlib.Core.List.{List, [], ◌∷◌, Memᴰ}
use Rattle.paths.specs.Weights.{weights, energy, pair, time}
use Rattle.paths.specs.Network.{Network, Hop}
use Rattle.paths.specs.TradeOff.{IsTradeOff, IsJoin}
use Rattle.paths.specs.Answer.{Best, Over, Apart, BestSum, NoSum}
use Rattle.paths.specs.Route.{FirstRoute}

-- A road of the examples (SCOPE 8.1, 8.4): its ends, its time and its energy
pub record Road : Type 0 where
  pub lower : ℕ
  pub higher : ℕ
  pub seconds : ℕ
  pub energy : ℕ

abbrev pub road : ℕ → ℕ → ℕ → ℕ → Road
road x y t e = record { lower = x; higher = y; seconds = t; energy = e }

-- The two arcs of each road (SCOPE 3.2: every road is used in both directions), with the road's place in the list as record number
unfoldable pub both_ways : ℕ → List Road → List (Hop energy)
both_ways r [] = []
both_ways r (a ∷ roads) =
    record { from = a.lower; to = a.higher; number = r; weighs = pair a.seconds a.energy }
    ∷ record { from = a.higher; to = a.lower; number = r; weighs = pair a.seconds a.energy }
    ∷ both_ways (suc r) roads

-- An arc that stands in a list and takes time (SCOPE 3.2)
pub record Listed (hops : List (Hop energy)) (x y r : ℕ) (w : (weights energy).Figure) : Type 0 where
  pub stands : Memᴰ (record { from = x; to = y; number = r; weighs = w }) hops
  pub slow : 1 ≤ time energy w

-- The network of a list of two-way roads (SCOPE 8.1, 8.4)
unfoldable pub network_of : List Road → Network energy
network_of roads = record { Arc = Listed (both_ways 0 roads); takes_time = λ a. a.slow }

-- Network A (SCOPE 8.1)
abbrev pub roads_a : List Road
roads_a = road 0 1 2 5 ∷ road 0 2 5 2 ∷ road 1 2 1 1 ∷ road 1 3 2 4 ∷ road 2 3 4 1 ∷ road 3 4 3 3 ∷ []

abbrev pub A : Network energy
A = network_of roads_a

-- The square (SCOPE 8.4)
abbrev pub roads_square : List Road
roads_square = road 0 1 1 1 ∷ road 0 2 1 1 ∷ road 1 3 1 1 ∷ road 2 3 1 1 ∷ []

abbrev pub Square : Network energy
Square = network_of roads_square

-- SCOPE 8.3: the two lists, in rising energy
abbrev pub list_k : List (weights energy).Figure
list_k = pair 9 8 ∷ pair 8 9 ∷ []

abbrev pub list_l : List (weights energy).Figure
list_l = pair 9 4 ∷ pair 8 9 ∷ []

-- The number that goes with an answer under a limit (SCOPE 4.2): 0 with the best answer, 22 and 23 where there is none
pub data Numbered (𝓝 : Network energy) (s t limit number : ℕ) : Type 0 where
  answered : {p : (weights energy).Figure} → Best 𝓝 s t limit p → number ≡ 0 → Numbered 𝓝 s t limit number
  not_connected : Apart 𝓝 s t → number ≡ 22 → Numbered 𝓝 s t limit number
  over_limit : Over 𝓝 s t limit → number ≡ 23 → Numbered 𝓝 s t limit number

-- SCOPE 8.1 to 8.4
pub record Starred : Type 0 where
  -- A: lists of a junction and its ancestor
  pub list01 : IsTradeOff A 0 1 (pair 6 3 ∷ pair 2 5 ∷ [])
  pub list02 : IsTradeOff A 0 2 (pair 5 2 ∷ pair 3 6 ∷ [])
  pub list12 : IsTradeOff A 1 2 (pair 1 1 ∷ [])
  pub list31 : IsTradeOff A 3 1 (pair 5 2 ∷ pair 2 4 ∷ [])
  -- A: lists of two branches
  pub list03 : IsTradeOff A 0 3 (pair 9 3 ∷ pair 7 7 ∷ pair 4 9 ∷ [])
  pub list04 : IsTradeOff A 0 4 (pair 12 6 ∷ pair 10 10 ∷ pair 7 12 ∷ [])
  -- A, from 0 to 3, by limits
  pub under2 : Over A 0 3 2
  pub number2 : Numbered A 0 3 2 23
  pub under3 : Best A 0 3 3 (pair 9 3)
  pub under6 : Best A 0 3 6 (pair 9 3)
  pub route93 : FirstRoute A 0 3 (pair 9 3) (0 ∷ 2 ∷ 3 ∷ [])
  pub under8 : Best A 0 3 8 (pair 7 7)
  pub under9 : Best A 0 3 9 (pair 4 9)
  -- From a junction to itself
  pub same : (s : ℕ) → Best A s s 0 (pair 0 0)
  pub same_route : (s : ℕ) → FirstRoute A s s (pair 0 0) (s ∷ [])
  -- The join, and its best sums by limits
  pub joined : IsJoin energy list_k list_l (pair 18 12 ∷ pair 17 13 ∷ pair 16 18 ∷ [])
  pub under13 : BestSum energy list_k list_l 13 (pair 17 13)
  pub under11 : NoSum energy list_k list_l 11
  -- The trap: of two sums with one time the one with less energy
  pub under17 : BestSum energy list_k list_l 17 (pair 17 13)
  -- The square: of two routes the first by number
  pub square : Best Square 0 3 2 (pair 2 2)
  pub square_route : FirstRoute Square 0 3 (pair 2 2) (0 ∷ 1 ∷ 3 ∷ [])
