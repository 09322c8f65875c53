pub mod Numbers
pub mod Kinds
pub mod Outcome
pub mod Answers
