-- Why the queries answer what they are to answer. Read in this order.
pub mod ListPlaces
pub mod BestSums
pub mod Rows
pub mod MarkedSums
pub mod PassLaws
pub mod ClimbLaws
pub mod WholeAnswers
pub mod BlockLaws
pub mod AnswersUnique
