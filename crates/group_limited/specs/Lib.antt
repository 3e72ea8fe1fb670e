pub mod LimitedForms
