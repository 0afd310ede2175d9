-- Patterns.
pub mod Fits
pub mod Names
pub mod Only
pub mod Patterns
pub mod Shapes
pub mod Steps
pub mod Variables
