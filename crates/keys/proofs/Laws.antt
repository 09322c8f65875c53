-- Laws of the definitions of specs/.
pub mod Keys
pub mod Tkv
pub mod Claims
