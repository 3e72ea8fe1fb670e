pub mod Versions
pub mod NothingLost
