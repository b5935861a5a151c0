-- Why Join meets its statement. Each file's first lines say what it shows.
pub mod JoinLaws
pub mod NotingLaws
pub mod JoinSteps
pub mod JoinAnswers
