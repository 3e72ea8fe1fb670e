pub mod NextDecides
pub mod AllSeen
