pub mod EncodeLaws
pub mod SettledLaws
