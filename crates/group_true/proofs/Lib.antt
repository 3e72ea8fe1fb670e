pub mod GroupsGrow
pub mod TrueGroups
pub mod DisputesGrow
pub mod ProperSets
pub mod Identities
