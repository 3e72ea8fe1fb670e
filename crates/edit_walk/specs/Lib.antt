pub mod WalkForms
