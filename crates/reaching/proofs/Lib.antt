-- Why what the search finds is what the paths have. Read in this order.
pub mod Searching
pub mod Reaching
