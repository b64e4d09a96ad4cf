pub mod ShapingLaws
pub mod WritingLaws
