pub mod Told
pub mod Lies
pub mod OneAnswer
