pub mod Bytes
pub mod Digits
pub mod Parts
pub mod Formed
pub mod Inverse
