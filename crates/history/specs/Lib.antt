pub mod History
pub mod Exchange
pub mod Inner
