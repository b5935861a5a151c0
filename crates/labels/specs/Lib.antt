-- What each public call gives, for all inputs: SCOPE 5, one file a call. (Check, and what the calls answer
-- on an accepted set: `accepted/specs`; Join and Limited join: `joins/specs/Answers.antt`; Show: `files/specs/Shown.antt`,
-- and here as a place and a length.)
pub mod Batch
pub mod Route
pub mod List
pub mod Part
