-- Why the program prints what the definitions say, and that it can print nothing else.
pub mod LineLaws
pub mod ReplyCases
pub mod FirstLines
pub mod FillSteps
pub mod PrintedParts
pub mod HandingOn
pub mod RepliesUnique
