pub mod LocatingOutcomes
pub mod TrailerBytes
pub mod DistanceByNumber
