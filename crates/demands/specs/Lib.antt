pub mod Calls
pub mod Told
pub mod Orders
pub mod PassedOn
