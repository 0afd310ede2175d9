pub mod steps
pub mod chains
pub mod patterns
