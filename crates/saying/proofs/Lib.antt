-- The laws that the proofs of `saying` cite.
pub mod Laws
