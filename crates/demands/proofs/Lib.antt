pub mod ReadBack
pub mod ReadLive
pub mod TrueClock
pub mod TwoArrivals
pub mod Orders
pub mod PassedOn
