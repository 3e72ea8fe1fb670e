pub mod WordSum
pub mod SumOfEdits
