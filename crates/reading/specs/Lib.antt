pub mod Reading
pub mod Reason
