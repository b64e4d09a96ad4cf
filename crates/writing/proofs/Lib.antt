pub mod WriteLaws
pub mod Parities
pub mod Changed
pub mod CarriedLaws
