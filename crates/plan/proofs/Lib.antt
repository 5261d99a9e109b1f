pub mod Spelled
pub mod Overwriting
pub mod Splits
pub mod Shortness
pub mod Going
pub mod Turns
mod Counting
mod Once
pub mod Tally
