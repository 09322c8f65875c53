-- Laws of the definitions of specs/.
pub mod Powers
pub mod Blocks
