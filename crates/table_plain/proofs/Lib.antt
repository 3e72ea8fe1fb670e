pub mod IndexGoesAlong
pub mod IndexAfter
pub mod PlainGoes
pub mod JudgedGoes
