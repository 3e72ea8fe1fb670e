pub mod Causal
pub mod Conflict
pub mod ConflictForms
pub mod TotalOrder
pub mod ShownValue
