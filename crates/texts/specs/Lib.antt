pub mod Limits
pub mod Words
pub mod Parts
pub mod Calls
pub mod Inverse
pub mod Inner
