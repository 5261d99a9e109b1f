pub mod Repeated
pub mod Again
