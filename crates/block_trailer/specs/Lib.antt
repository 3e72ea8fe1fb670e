pub mod Trailer
pub mod Locating
