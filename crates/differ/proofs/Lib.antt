-- The law that the proofs of `differ` cite.
pub mod Laws
