pub mod Printing
pub mod PrintForms
