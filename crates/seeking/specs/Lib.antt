pub mod Seek
pub mod Claims
pub mod Load
pub mod Inner
