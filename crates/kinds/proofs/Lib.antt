pub mod BufferLaws
pub mod FrontLaws
pub mod KindsLaws
pub mod DoesLaws
pub mod ToldLaws
pub mod HoldingLaws
