-- Quotients: plain runs survive, quotients compose, two states are joined, tables of classes.
pub mod Filtered
pub mod Survival
pub mod Composition
pub mod Joining
pub mod Tables
pub mod QuotientSteps
