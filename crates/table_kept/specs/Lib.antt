pub mod BoxForms
pub mod ChainForms
