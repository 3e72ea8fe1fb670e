pub mod ChainForms
pub mod KeyForms
pub mod FieldForms
pub mod MaskForms
