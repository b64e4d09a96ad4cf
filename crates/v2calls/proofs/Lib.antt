pub mod RoomLaws
pub mod LittleLaws
pub mod CallLaws
