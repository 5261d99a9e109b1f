pub mod Choose
pub mod Order
pub mod Reach
