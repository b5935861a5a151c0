-- Which list is told on an accepted set, as the code hands it back. Read in this order.
pub mod Tells
pub mod Noting
