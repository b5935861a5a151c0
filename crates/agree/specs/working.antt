-- What the test of one list asks and tells. Read in this order.
pub mod Covering
pub mod Agreeing
