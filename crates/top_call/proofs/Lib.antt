pub mod Statuses
pub mod Naming
pub mod Once
pub mod Shown
pub mod Saying
