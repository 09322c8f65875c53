pub mod Limits
pub mod Words
pub mod Keys
pub mod Claims
pub mod Inner
