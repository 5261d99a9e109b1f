pub mod FourValues
pub mod Settling
pub mod Summing
pub mod Certificates
