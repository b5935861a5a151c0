-- Blocks are merged from the deepest level up and placed from the roots down, so they nest and are apart; then they are listed by spot and copied.
use Prim.Native.Nat.{ℕ}
use lib.ListN.{length-replicate, get_or-replicate}
use Rattle.preorder.proofs.Levels.{levels_none}
use Rattle.preorder.proofs.Merging.{merged_none, offsets_small}
use Rattle.preorder.proofs.Nesting.{placed-spread, listed-numbered}
use Rattle.preorder.proofs.number.number.Goals as goal

pub chain_levels-requires-clause-levels_from : goal.chain_levels-requires-clause-levels_from
chain_levels-requires-clause-levels_from c =
    levels_none
    c.requires.parents_fit.few_junctions
    (length-replicate {A = ℕ} 1024 1024)
    (λ d h. get_or-replicate {A = ℕ} 1024 d 1024 0 h)
    (length-replicate {A = ℕ} 1024 0)
    (length-replicate {A = ℕ} 1024 0)

pub merge_all-requires-clause-merged : goal.merge_all-requires-clause-merged
merge_all-requires-clause-merged c = merged_none c.requires.parents_fit c.chain_levels.ensures (length-replicate {A = ℕ} 1024 0)

pub place_all-requires-clause-parents_fit : goal.place_all-requires-clause-parents_fit
place_all-requires-clause-parents_fit c = (c.requires.parents_fit, offsets_small c.requires.parents_fit c.merge_all.ensures)

pub list_order-requires : goal.list_order-requires
list_order-requires c = (placed-spread c.requires.parents_fit c.merge_all.ensures c.place_all.ensures c.junctions_of-n.ensures.is, c.place_all.ensures.places, length-replicate {A = ℕ} 1024 0)

pub returns : goal.returns
returns c = (
  listed-numbered c.requires.parents_fit c.merge_all.ensures c.place_all.ensures c.junctions_of-n.ensures.is c.list_order.ensures c.copy_numbering.ensures,
  c.copy_numbering.ensures.lower_stay,
)
