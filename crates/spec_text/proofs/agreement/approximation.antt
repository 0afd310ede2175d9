-- The approximation.
pub mod Arguments
pub mod Entries
pub mod Rows
pub mod Section
pub mod Tokens
pub mod Variables
pub mod Wholes
