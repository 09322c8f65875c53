-- Laws of the definitions of specs/.
pub mod Chunks
pub mod Runs
pub mod Joins
pub mod Bytes
pub mod Edges
pub mod Few
pub mod Walk
pub mod Rooms
pub mod Calls
pub mod Answered
pub mod Claims
