pub mod TakingForms
