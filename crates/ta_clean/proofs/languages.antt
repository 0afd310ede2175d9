pub mod EmptyLanguages
pub mod AllTerms
