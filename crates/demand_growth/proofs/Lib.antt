pub mod Later
pub mod NothingLost
