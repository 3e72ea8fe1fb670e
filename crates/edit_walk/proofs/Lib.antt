pub mod LatestDecides
pub mod NewsDecide
pub mod RoomInIndex
pub mod WalkKeeps
