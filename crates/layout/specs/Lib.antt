pub mod Length
pub mod Certificate
pub mod Written
pub mod Reading
