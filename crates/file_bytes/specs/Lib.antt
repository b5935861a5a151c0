-- Numbers in files.
pub mod Bytes
pub mod working
