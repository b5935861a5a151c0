-- What is said of reading a file.
pub mod Reading
