pub mod Encode
pub mod Settled
