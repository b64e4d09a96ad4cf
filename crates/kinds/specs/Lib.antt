pub mod Kinds
pub mod Holding
