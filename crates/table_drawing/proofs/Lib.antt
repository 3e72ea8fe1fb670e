pub mod OpeningOutcomes
pub mod RefusalNumbers
