pub mod Prices
pub mod Stock
