pub mod TrueGroups
pub mod Disputed
pub mod Identities
pub mod EqualEdits
