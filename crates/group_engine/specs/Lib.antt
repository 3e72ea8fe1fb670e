pub mod SearchForms
