pub mod LiesLaws
pub mod OneAnswer
