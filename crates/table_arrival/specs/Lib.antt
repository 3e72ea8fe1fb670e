pub mod Arrival
pub mod ArrivalForms
pub mod Answers6and7
