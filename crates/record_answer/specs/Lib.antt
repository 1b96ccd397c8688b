pub mod Answers
pub mod Unanswering
