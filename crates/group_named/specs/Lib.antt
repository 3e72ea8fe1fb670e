pub mod ChainForms
pub mod NamedForms
