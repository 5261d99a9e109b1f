pub mod Polynomial
pub mod Monomial
pub mod Certificate
pub mod Product
pub mod Evaluation
pub mod Image
pub mod Theorems
