pub mod Carried
pub mod Write
