-- What the functions that find an answer stand on and tell. Read in this order.
pub mod Prepared
pub mod PreparedSet
pub mod AnswerValues
pub mod AnswerFrom
pub mod Levels
pub mod Passing
pub mod Blocks
pub mod Between
pub mod Sums
