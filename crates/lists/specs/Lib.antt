-- Trade-off lists in two slices.
pub mod Entries
pub mod working
