pub mod MaximalSets
pub mod Groups
pub mod Step
