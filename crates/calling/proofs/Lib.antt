pub mod Asking
pub mod Reading
pub mod Replying
pub mod Saying
