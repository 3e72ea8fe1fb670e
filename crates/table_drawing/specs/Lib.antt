pub mod Tables
pub mod Opening
pub mod AnswerNumbers
