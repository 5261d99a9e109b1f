pub mod Certified
pub mod Alike
