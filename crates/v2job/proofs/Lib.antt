pub mod WaitingLaws
