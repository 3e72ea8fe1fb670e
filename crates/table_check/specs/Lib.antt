pub mod Check
pub mod CheckForms
