pub mod Digits
pub mod Script
pub mod Text
pub mod Sides
