-- What the contracts of `saying` cite.
pub mod Numbers
pub mod Lines
