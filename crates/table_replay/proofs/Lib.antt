pub mod RoomForAll
pub mod ShortOrLong
