pub mod Demands
pub mod OneAnswer
pub mod Sequences
pub mod Reading
pub mod Cases
pub mod Witnesses
