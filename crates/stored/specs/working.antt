-- What a file that passed holds, and what the functions that pass over, find and load lists tell. Read in this order.
pub mod Formed
pub mod Scanned
pub mod Runs
