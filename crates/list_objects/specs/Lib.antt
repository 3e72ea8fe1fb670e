pub mod Objects
pub mod ObjectForms
