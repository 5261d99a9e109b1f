pub mod Digits
pub mod Saying
