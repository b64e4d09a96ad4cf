pub mod StepLaws
pub mod DecidingLaws
pub mod SteppingLaws
pub mod TakenLaws
