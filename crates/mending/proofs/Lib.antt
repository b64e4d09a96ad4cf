pub mod AskingLaws
pub mod MendingLaws
