pub mod Decimal
pub mod Pieces
pub mod HeadAndRefusal
