pub mod RebuildLaws
pub mod MendingLaws
