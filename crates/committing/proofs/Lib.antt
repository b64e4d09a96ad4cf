pub mod CommittingLaws
