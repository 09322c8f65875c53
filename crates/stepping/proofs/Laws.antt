-- Laws of the definitions of specs/.
pub mod Lists
pub mod Ends
pub mod Pieces
pub mod Steps
pub mod Leads
pub mod Chunk
pub mod File
pub mod Claims
