pub mod LinesGathered
pub mod LineFound
