-- What the two joins ask of their lists, and what they answer. Read in this order.
pub mod Form
pub mod Refusals
pub mod Answers
