-- Laws of the definitions of specs/.
pub mod Halve
pub mod Seek
pub mod Edges
pub mod Loaded
pub mod LentRow
pub mod InBytes
pub mod Source
pub mod Fill
pub mod Load
pub mod LoadFinds
