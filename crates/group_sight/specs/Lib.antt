pub mod SightForms
