pub mod AnswersLaws
pub mod OutcomeLaws
