pub mod Explains
pub mod LocateLaws
pub mod LocatingLaws
