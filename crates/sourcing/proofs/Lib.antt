pub mod FlatLaws
pub mod SourcesLaws
