pub mod Lines
pub mod Spelling
pub mod Rendering
pub mod Texts
pub mod Solving
pub mod Plans
