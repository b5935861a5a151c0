-- What the sweep over the labels asks and tells.
pub mod TabledSet
pub mod Sweep
