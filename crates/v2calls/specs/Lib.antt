pub mod Little
pub mod Calls
pub mod Heads
pub mod Room
pub mod Told
