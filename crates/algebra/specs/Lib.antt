pub mod Linear
pub mod Grid
pub mod Reduced
pub mod Held
pub mod ZeroOne
pub mod Theorems
