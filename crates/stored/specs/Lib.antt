-- The stored lists: where each stands, what it is refused by, when all are right. Read in this order.
pub mod Stored
pub mod Refusal
pub mod ListForm
pub mod Right
pub mod working
