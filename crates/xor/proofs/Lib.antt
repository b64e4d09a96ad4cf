pub mod XorLaws
pub mod XorsLaws
pub mod TotalLaws
pub mod Span
pub mod TellsLaws
