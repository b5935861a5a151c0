-- Why lines and query lines are read, and text is written, as the definitions say; that no second reading meets a statement, and that
-- what is printed for a number is read as that number.
pub mod LineSteps
pub mod LineParts
pub mod DigitSteps
pub mod NumberSteps
pub mod QuerySteps
pub mod ReadingUnique
pub mod WritingLaws
pub mod NumeralRead
