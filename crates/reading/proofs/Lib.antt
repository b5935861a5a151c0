-- How the bytes of several reads stand behind one another; that a further read has one answer, and which parts of a file are handed on.
mod Pieces
pub mod Further
pub mod Parts
