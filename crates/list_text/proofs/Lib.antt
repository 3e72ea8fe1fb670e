pub mod OneDecimal
pub mod PrintedDecimal
pub mod PiecesBehind
