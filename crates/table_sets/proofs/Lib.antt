pub mod OneSetLinked
pub mod Followed
pub mod MarksByKey
pub mod SetsTold
pub mod DisputesByMarks
pub mod FieldsCopied
pub mod MarksByMask
