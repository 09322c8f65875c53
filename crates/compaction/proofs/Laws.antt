-- Laws of the definitions of specs/.
pub mod Span
pub mod Scan
pub mod Covered
pub mod Ends
pub mod Told
pub mod Fresh
pub mod NewList
pub mod Calls
pub mod Again
pub mod Delivery
