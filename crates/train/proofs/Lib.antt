pub mod Sets
pub mod Over
pub mod Laws
pub mod MarkOctets
