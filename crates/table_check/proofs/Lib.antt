pub mod JoinedLater
pub mod SettledByRecords
pub mod AllTaken
pub mod TrueExactly
pub mod SetsInTurn
pub mod RowWorkedOut
