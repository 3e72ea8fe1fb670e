pub mod CopiedParts
pub mod OldRecords
pub mod Stretches
pub mod OneLength
