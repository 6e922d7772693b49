pub mod WrongLaws
pub mod MarkedLaws
