pub mod NumbersFrom
pub mod SetsChained
pub mod SetsGathered
pub mod BoxesNamed
pub mod SwappedPlaces
