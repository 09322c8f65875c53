pub mod Plain
pub mod Names
pub mod Compact
pub mod Files
pub mod Seeks
pub mod Changes
pub mod Steps
pub mod Judges
