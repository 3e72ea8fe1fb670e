pub mod LineFromMembers
pub mod LineTurns
pub mod KeptPieces
pub mod LineByStamps
