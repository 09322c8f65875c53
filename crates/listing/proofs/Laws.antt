-- Laws of the definitions of specs/.
pub mod Lines
pub mod Calls
pub mod Longest
