-- Laws of the definitions of specs/.
pub mod Shifts
pub mod Locations
pub mod Tops
pub mod Pieces
pub mod Walk
pub mod Few
pub mod Rooms
pub mod Calls
pub mod Divide
pub mod Fits
pub mod Bytes
pub mod Reads
pub mod Answered
pub mod Again
