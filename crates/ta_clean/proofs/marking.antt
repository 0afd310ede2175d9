pub mod UseLists
pub mod TableMarks
pub mod MarkedArguments
pub mod ArgumentPlaces
pub mod CommonTerms
