pub mod GroupRows
pub mod StepForms
