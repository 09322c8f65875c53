-- Laws of the definitions of specs/.
pub mod Parts
pub mod Steps
pub mod Chains
pub mod Calls
pub mod Inverse
pub mod Shows
