-- What the functions that read numbers tell.
pub mod Reads
