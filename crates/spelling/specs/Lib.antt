-- What the contracts of `spelling` cite.
pub mod Hex
pub mod Spelling
pub mod Language
pub mod Reading
