-- Laws of the form and of Limited join; each of the two joins has one answer. Each file's first lines say what it shows.
pub mod FormLaws
pub mod Rules
pub mod SumAnswers
pub mod LimitedUnique
pub mod RefusalLaws
pub mod JoinUnique
