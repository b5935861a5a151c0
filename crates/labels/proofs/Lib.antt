-- Why the calls give what they state, and that no second outcome meets a statement.
pub mod Outcomes
pub mod BatchUnique
pub mod RouteUnique
pub mod ListUnique
pub mod PartUnique
pub mod PairOrder
