pub mod Locate
pub mod Locating
