pub mod KeptForms
