-- Laws of the definitions of specs/.
pub mod Bools
pub mod All
pub mod Splice
pub mod Fixed
pub mod Groups
pub mod Little
pub mod Decimal
pub mod Width
pub mod Table
pub mod Pairs
pub mod Thrice
pub mod Scan
pub mod Steps
