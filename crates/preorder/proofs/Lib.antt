-- Why the numbering is right. Read in this order.
pub mod Levels
pub mod Sums
pub mod Merging
pub mod Placing
pub mod Onto
pub mod Nesting
