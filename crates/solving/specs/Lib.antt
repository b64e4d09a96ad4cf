pub mod Alone
pub mod Outer
