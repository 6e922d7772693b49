-- The laws that the proofs of `compare` cite.
pub mod Laws
