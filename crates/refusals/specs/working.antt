-- What a test decides.
pub mod Decides
