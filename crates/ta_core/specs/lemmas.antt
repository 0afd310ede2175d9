pub mod Orders
pub mod RunsLaws
pub mod RunStates
pub mod ReachedSets
pub mod Assignments
pub mod PlainRuns
