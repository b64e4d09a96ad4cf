pub mod Column
pub mod Handed
