-- Laws of the definitions of specs/.
pub mod Store
pub mod Copy
pub mod Fresh
pub mod Held
pub mod NewSlice
pub mod Reads
pub mod Compaction
pub mod Answered
pub mod Allowed
pub mod ThirdDemand
pub mod OneSlice
