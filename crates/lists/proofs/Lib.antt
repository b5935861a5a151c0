-- Laws of trade-off lists in two slices. Each file's first lines say what it shows.
pub mod Entries
pub mod Walk
pub mod JoinBackwards
