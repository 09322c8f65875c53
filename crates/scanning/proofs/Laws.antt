-- Laws of the definitions of specs/.
pub mod Last
pub mod Scan
