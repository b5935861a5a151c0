-- What Trade-off list answers on an accepted set, way by way: off the map, a junction and itself, no path, no room, listed.
use mathlib.Core.Path.{◌≡◌, refl, sym}
use mathlib.Core.Logic.{inl, inr}
use mathlib.Core.List.Memᴰ
use mathlib.Core.List.{List, [], ◌∷◌, Memᴰ}
use Prim.Native.Nat.{ℕ, ◌≤◌, ◌<◌, min}
use native.Mathlib.Omega.{arith}
use lib.ListN.{length, set}
use Rattle.paths.specs.Weights.{weights, energy, pair, time, spent, Rising}
use Rattle.paths.specs.Network.{stay, weight}
use Rattle.paths.specs.TradeOff.{Skyline, IsTradeOff}
use Rattle.paths.specs.Answer.{Apart}
use Rattle.paths.proofs.Figures.{number_lawful}
use Rattle.paths.proofs.Covering.{walk-covered}
use Rattle.refusals.specs.Lent.{filled, ListRefused}
use Rattle.network.specs.NetworkFile.{network_of, junctions_of}
use Rattle.file_bytes.specs.working.Reads.{Read16}
use Rattle.lists.specs.Entries.{Weight}
use Rattle.query.specs.declared.Between.{Between}
use Rattle.query.specs.working.Prepared.{Prepared}
use Rattle.query.specs.working.Between.{Leads}
use Rattle.routes.proofs.RouteWay.{alone-spends-none}
use Rattle.tradeoffs.specs.working.Tells.{Tells}
use Rattle.spans.specs.working.Written.{Counted, ListWritten}
use Rattle.tradeoffs.proofs.Lists.{tells_right}
use Rattle.accepted.specs.List.{ListAnswered, off_map, not_connected, no_room, listed}
use Rattle.accepted.specs.working.ListPut.{ListPut, itself, too_long, put}

-- a list with an entry is not empty
some-entry : {p : Weight} {l : List Weight} → Memᴰ p l → 1 ≤ length l
some-entry {l = []} m = absurd (Memᴰ.not-nil m)
some-entry {l = q ∷ l} m = omega arith

-- every path has an entry below it, so where the list is empty there is none
empty-apart : {net : List ℕ} {s t : ℕ} {l : List Weight} → IsTradeOff (network_of net) s t l → length l ≡ 0 → Apart (network_of net) s t
empty-apart right none walk = omega (arith, some-entry (walk-covered number_lawful right walk).member)

-- the labels' map is the network's
on_net : {net labels depths tables : List ℕ} {v : ℕ} → Prepared net labels depths tables → v < junctions_of labels → v < junctions_of net
on_net prepared h = omega (arith, prepared.beside.one_map)

-- nothing is counted and nothing written
unchanged : {times energies : List ℕ} {number : ℕ} → ListRefused times energies number 0 times energies number
unchanged = record { number_is = refl; no_count = refl; times_stay = refl; energies_stay = refl }

-- ---- A junction and itself

-- the path that stays is beaten by none, and no other path is unbeaten
alone-line : (net : List ℕ) (x : ℕ) → Skyline (network_of net) x x (pair 0 0)
unfolding weight
alone-line net x = record { walk = stay; weighs = refl; unbeaten = λ other b. b.smaller (nothing-less b.no_larger) }
  where
    nothing-less : {p : Weight} → (weights energy).◌⊑◌ p (pair 0 0) → p ≡ pair 0 0
    nothing-less {p} h =
        let t : time energy p ≡ 0 = omega (arith, h.1) in
        let e : spent energy p ≡ 0 = omega (arith, h.0) in
        λ n. pair (t n) (e n)

alone-right : {net : List ℕ} {x y : ℕ} → x ≡ y → IsTradeOff (network_of net) x y itself
alone-right {net} {x} same =
    rw (← same)
    (record {
      rising = Rising.one;
      real = λ m. rw (Memᴰ.eq_of_singleton m) (alone-line net x);
      complete = λ line. Memᴰ.head (sym (alone-spends-none line));
    })

-- a first place that is set is one filled
set_first : (old : List ℕ) (v : ℕ) → 0 < length old → set old 0 v ≡ filled old (v ∷ [])
unfolding filled
set_first [] v h = absurd (omega arith)
set_first (x ∷ old) v h = refl

module _ {times energies : List ℕ} {room : ℕ} (is : room ≡ min (length times) (length energies)) where
  pub itself_too_long : room ≤ 0 → ListPut itself times energies 24 0 times energies
  itself_too_long none = too_long (omega arith) unchanged

  pub itself_put : 0 < room → ListPut itself times energies 0 1 (set times 0 0) (set energies 0 0)
  itself_put some = put (omega arith) refl refl (set_first times 0 (omega arith)) (set_first energies 0 (omega arith))

module _ {net : List ℕ} {s t : ℕ} {times energies : List ℕ} where
  pub start_off_map : {n : ℕ} → Read16 (junctions_of net) n → n ≤ s → ListAnswered net s t times energies 21 0 times energies
  start_off_map read h = off_map (inl (omega (arith, read.is))) unchanged

  pub finish_off_map : {n : ℕ} → Read16 (junctions_of net) n → n ≤ t → ListAnswered net s t times energies 21 0 times energies
  finish_off_map read h = off_map (inr (omega (arith, read.is))) unchanged

  module _ {labels depths tables : List ℕ} (prepared : Prepared net labels depths tables) (s-on-map : s < junctions_of labels) (t-on-map : t < junctions_of labels) where
    pub list-itself :
        {number count : ℕ} {times_after energies_after : List ℕ} → s ≡ t → ListPut itself times energies number count times_after energies_after →
        ListAnswered net s t times energies number count times_after energies_after
    list-itself same (too_long short refused) =
        no_room (on_net prepared s-on-map) (on_net prepared t-on-map) (alone-right same) (omega arith) short refused
    list-itself same (put room n c f g) =
        listed (on_net prepared s-on-map) (on_net prepared t-on-map) (alone-right same) (omega arith) room n c f g

    module _ (lists : Between) (led : Leads labels s t lists) {count : ℕ} where
      module _ (told : Counted (Tells labels lists) count) where
        pub list-apart : count ≡ 0 → ListAnswered net s t times energies 22 0 times energies
        list-apart none =
            not_connected (on_net prepared s-on-map) (on_net prepared t-on-map) (empty-apart (tells_right prepared lists led told.right) (omega (arith, told.counted))) unchanged

        pub list_too_long : {room : ℕ} → (count ≡ 0 → ⊥) → room ≡ min (length times) (length energies) → room < count → ListAnswered net s t times energies 24 0 times energies
        list_too_long some is short =
            let long = told.counted in
            no_room (on_net prepared s-on-map) (on_net prepared t-on-map) (tells_right prepared lists led told.right) (omega arith) (omega arith) unchanged

      pub list_written :
          {room : ℕ} {times_after energies_after : List ℕ} → (count ≡ 0 → ⊥) → room ≡ min (length times) (length energies) → count ≤ room →
          ListWritten (Tells labels lists) times energies count times_after energies_after → ListAnswered net s t times energies 0 count times_after energies_after
      list_written some is fits written =
          listed (on_net prepared s-on-map) (on_net prepared t-on-map) (tells_right prepared lists led written.right) (omega (arith, written.counted)) (omega (arith, written.counted))
          refl
          written.counted
          written.times_filled
          written.energies_filled
