pub mod Block
