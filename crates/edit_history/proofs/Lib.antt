pub mod EditsHeld
pub mod EditsByPlaces
pub mod ByCounts
pub mod RecordsPassed
pub mod FieldsInPlace
pub mod SeenRanksBefore
pub mod EditsInPlaces
