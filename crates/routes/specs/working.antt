-- What the first route of an accepted set is, as the code hands it back. Read in this order.
pub mod Steps
pub mod Written
