pub mod ReplayFaithful
pub mod ReplayGoes
pub mod OwnRecords
