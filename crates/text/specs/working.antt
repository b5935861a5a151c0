-- What the functions that read and write text ask and tell. Read in this order.
pub mod Writing
pub mod Spelling
pub mod Reading
