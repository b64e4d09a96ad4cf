pub mod Rule
pub mod Losses
pub mod Outer
