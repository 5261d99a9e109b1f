pub mod Field
pub mod Bools
pub mod Bit
pub mod Four
