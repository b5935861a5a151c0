-- Laws of the lent table.
pub mod Stays
