pub mod Limits
pub mod Words
pub mod Volume
pub mod Names
pub mod Claims
pub mod Inner
