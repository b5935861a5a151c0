-- Laws of the label file, for those who read it further.
pub mod FormLaws
pub mod FormTests
pub mod ShowLaws
pub mod ShowUnique
