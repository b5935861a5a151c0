-- Contract records of the functions of this crate and of those that note sums. Read in this order.
pub mod Noting
pub mod Waiting
pub mod Below
pub mod Written
