pub mod Refusal
pub mod Outcome
