-- What a query on an accepted set answers.
pub mod NoAnswers
pub mod Answers
pub mod working
