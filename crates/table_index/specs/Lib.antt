pub mod IndexForms
