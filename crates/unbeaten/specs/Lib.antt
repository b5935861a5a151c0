-- What the functions behind Join hand back; its statement is `Join` of `joins/specs/Answers.antt`.
pub mod working
