pub mod Struck
pub mod StoreLaws
pub mod Symbols
pub mod StruckOutcome
pub mod SetLaws
