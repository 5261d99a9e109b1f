pub mod Cycle
pub mod Family
pub mod Building
