pub mod Identifier
pub mod VersionOrder
pub mod VersionForms
pub mod Members
pub mod Values
