pub mod OutputOutcomes
