-- That the three demands hold of what the calls state (`Demands`), and what each stands on.
pub mod Unchanged
pub mod DemandLaws
pub mod LegLaws
pub mod Demands
