-- What the functions that test a label file and find a part of it tell. Read in this order.
pub mod FormRead
pub mod Span
