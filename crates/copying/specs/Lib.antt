pub mod Copy
pub mod ThirdDemand
pub mod OneSlice
