pub mod ChangedLaws
pub mod AgreeingLaws
pub mod RoomLaws
pub mod StretchLaws
