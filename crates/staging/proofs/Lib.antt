pub mod StagingLaws
pub mod ReadingLaws
