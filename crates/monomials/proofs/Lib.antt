pub mod Binomials
pub mod Rows
pub mod Places
pub mod Turn
pub mod Written
pub mod Sorted
pub mod Reach
