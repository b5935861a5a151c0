-- How large the numbers are.
pub mod Numbers
