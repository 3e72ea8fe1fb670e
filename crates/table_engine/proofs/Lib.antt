pub mod MasksOfSets
pub mod EnumerationOutcomes
pub mod BoxPrepared
pub mod SameAsRow
