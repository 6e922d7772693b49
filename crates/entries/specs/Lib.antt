pub mod Entries
pub mod Signals
