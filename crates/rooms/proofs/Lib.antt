-- Laws of the rooms.
pub mod RoomLaws
