pub mod StandingLaws
pub mod Stretch
