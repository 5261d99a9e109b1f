pub mod Flags
pub mod Same
