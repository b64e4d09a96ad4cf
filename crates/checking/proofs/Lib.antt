pub mod CheckLaws
pub mod Counting
