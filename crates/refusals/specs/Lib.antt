-- The order of tests, and slices that a call fills. Read in this order.
pub mod Order
pub mod Lent
pub mod working
