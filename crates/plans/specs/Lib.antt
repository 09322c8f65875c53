pub mod Location
pub mod Plan
pub mod Piece
pub mod Store
pub mod Calls
pub mod Inner
