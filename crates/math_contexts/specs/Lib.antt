pub mod Box
pub mod Contexts
pub mod Versions
pub mod NamedVersions
pub mod SameSets
pub mod BoxByArrival
pub mod MaskForms
