-- Laws of the definitions of specs/.
pub mod Outcome
pub mod Answers
pub mod Kinds
pub mod Delivery
