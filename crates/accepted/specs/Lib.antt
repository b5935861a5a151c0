-- The check, and what Batch, Route and Trade-off list answer on an accepted set: SCOPE 5, one file a call.
-- `labels/specs` adds what the whole calls give.
pub mod Check
pub mod CheckRefusals
pub mod Batch
pub mod Route
pub mod RouteAnswers
pub mod List
pub mod ListAnswers
pub mod working
