pub mod Good
pub mod Place
pub mod Step
pub mod Refusals
pub mod Placed
pub mod Own
