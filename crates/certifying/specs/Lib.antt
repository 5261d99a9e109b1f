pub mod Hexadecimal
pub mod Turns
pub mod Text
pub mod Sides
