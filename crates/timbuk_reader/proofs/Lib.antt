pub mod keeping
pub mod parsing
