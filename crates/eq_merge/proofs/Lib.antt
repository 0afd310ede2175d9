pub mod quotients
pub mod least
pub mod finding
pub mod keeping
