-- Laws of the definitions of specs/.
pub mod Cover
pub mod Record
pub mod Firsts
pub mod Ids
pub mod Left
pub mod OneSize
pub mod Sizes
pub mod Refusals
pub mod Scan
pub mod Sources
pub mod Tree
