pub mod BytesBehind
pub mod LinesJoined
pub mod OnePass
