pub mod Step
pub mod Deciding
