-- Why the lists are right exactly if each passes its test, and why the test is carried out right. Read in this order.
pub mod Exactness
pub mod CoverSteps
pub mod MergeSteps
pub mod Neighbours
pub mod AgreeSteps
