-- Why a span has what the sums have. Read in this order.
pub mod NotingLaws
pub mod TableLaws
pub mod WaitingLaws
pub mod BelowLaws
pub mod ListSteps
pub mod BelowUnique
