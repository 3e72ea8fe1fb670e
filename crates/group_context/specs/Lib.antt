pub mod RowForms
pub mod RowsOfBox
