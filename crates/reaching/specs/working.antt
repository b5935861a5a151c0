-- When a pair is reached on an accepted set, and what the search for it tells. Read in this order.
pub mod Reach
pub mod Searched
