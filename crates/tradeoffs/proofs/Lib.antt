-- Why a list is whole. Read in this order.
pub mod NotingLaws
pub mod Lists
pub mod ListSteps
