pub mod Reading
pub mod Staging
