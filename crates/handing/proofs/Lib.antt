pub mod Guards
pub mod ColumnLaws
pub mod HandedLaws
