pub mod WritingOutcomes
pub mod WrittenLocated
pub mod ExampleBlocks
pub mod ReadingOutcomes
pub mod RoundTrips
pub mod OldAsLong
