-- The three demands (SCOPE 7).
pub mod Demands
