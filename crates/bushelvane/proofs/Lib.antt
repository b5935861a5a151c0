-- Why the C functions give what the calls state.
pub mod Passed
