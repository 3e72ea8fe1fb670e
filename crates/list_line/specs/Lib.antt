pub mod Line
pub mod LineForms
