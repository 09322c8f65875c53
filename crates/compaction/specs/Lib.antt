pub mod Span
pub mod Compaction
pub mod Calls
pub mod Inner
