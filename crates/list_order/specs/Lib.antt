pub mod Layers
pub mod Moves
pub mod LayerForms
