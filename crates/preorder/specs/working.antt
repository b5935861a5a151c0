-- The junctions in an order in which the descendants of each stand right behind it. Read in this order.
pub mod Numbered
pub mod Levels
pub mod Blocks
