-- Why the sweep decides number 18.
pub mod Noting
pub mod Moving
pub mod Sweeping
pub mod Verdicts
