pub mod fields
pub mod format
pub mod uniqueness
pub mod rows
pub mod whole
