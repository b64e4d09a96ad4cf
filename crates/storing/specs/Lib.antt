pub mod Set
pub mod Store
