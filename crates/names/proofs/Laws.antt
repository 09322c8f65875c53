-- Laws of the definitions of specs/.
pub mod Volume
pub mod Names
pub mod Length
pub mod Slice
pub mod Full
pub mod Claims
