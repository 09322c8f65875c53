pub mod Judge
pub mod Cuts
pub mod Calls
pub mod Claims
pub mod Inner
