pub mod Answers
pub mod Outcome
