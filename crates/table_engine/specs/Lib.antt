pub mod Enumeration
pub mod EngineForms
