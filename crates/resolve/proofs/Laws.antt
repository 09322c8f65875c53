-- Laws of the definitions of specs/.
pub mod Digits
pub mod Set
pub mod Sweep
pub mod Turn
pub mod Resolved
pub mod Ready
pub mod Sorted
pub mod Tops
