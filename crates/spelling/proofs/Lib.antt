-- The laws that the proofs of `spelling` cite.
pub mod Laws
pub mod Turns
pub mod Back
pub mod Examples
