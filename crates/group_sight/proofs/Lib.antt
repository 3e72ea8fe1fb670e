pub mod OneMoreTaken
pub mod NamesOfSets
pub mod FoesConflict
pub mod SeenThrough
pub mod MarksOfSets
