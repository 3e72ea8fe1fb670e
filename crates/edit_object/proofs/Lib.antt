pub mod PlacesPassed
