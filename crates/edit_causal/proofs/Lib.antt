pub mod CausalLaws
pub mod VectorSums
pub mod Identities
pub mod ConflictsAmongSets
pub mod PlainMarks
