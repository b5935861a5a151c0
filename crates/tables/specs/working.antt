-- One array for what is worked out once per call.
pub mod Layout
