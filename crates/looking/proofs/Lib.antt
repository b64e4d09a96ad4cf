pub mod Seen
pub mod OnesLaws
