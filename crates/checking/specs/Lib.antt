pub mod Check
pub mod Bits
