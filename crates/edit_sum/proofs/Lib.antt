pub mod WordsAdded
pub mod SumOfRecords
