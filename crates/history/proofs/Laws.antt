-- Laws of the definitions of specs/.
pub mod Begins
pub mod Calls
pub mod Added
pub mod Exchange
pub mod Exchanged
pub mod Tidied
