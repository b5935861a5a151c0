-- Why the check and what follows it on an accepted set give what they state, and that the check has one number.
pub mod Accepts
pub mod CheckNumbers
pub mod CheckUnique
pub mod Refusals
pub mod Accepted
pub mod BatchSteps
pub mod FoundPair
pub mod RouteAnswers
pub mod ListAnswers
