pub mod Scales
pub mod Exact
pub mod Laws
