-- Laws of the definitions of specs/.
pub mod Next
pub mod Count
pub mod ViewSource
pub mod ViewFrom
pub mod Fits
pub mod OneSize
pub mod RunCover
pub mod Tidied
pub mod Segments
pub mod Tops
pub mod Calls
pub mod Rooms
pub mod ViewBack
pub mod Again
