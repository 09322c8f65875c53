-- Laws of the definitions of specs/.
pub mod Lists
pub mod Numbered
pub mod Refusals
pub mod Check
