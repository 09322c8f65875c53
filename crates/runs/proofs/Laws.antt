-- Laws of the definitions of specs/.
pub mod Runs
pub mod Walk
pub mod Putting
pub mod Loops
