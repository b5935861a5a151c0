-- Each list is copied to a part of the table of its own.
use Rattle.preorder.proofs.Placing.{copied_all}
use Rattle.preorder.proofs.number.copy_numbering.Goals as goal

pub returns : goal.returns
returns c =
    copied_all
    c.requires.n_bound.0
    c.requires.order_len.0
    c.requires.order_len.1
    c.requires.order_len.2
    c.requires.n_bound.1
    c.copy_from_slice.ensures.after
    c.copy_from_slice-2.ensures.after
    c.copy_from_slice-3.ensures.after
