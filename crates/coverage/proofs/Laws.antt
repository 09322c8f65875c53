-- Laws of the definitions of specs/.
pub mod Least
pub mod Count
pub mod Held
pub mod Kept
pub mod Collected
pub mod Windows
pub mod Chained
pub mod Swept
