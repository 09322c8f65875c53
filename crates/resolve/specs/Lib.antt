pub mod Resolved
pub mod Sorted
pub mod Set
pub mod Sweep
pub mod Tops
