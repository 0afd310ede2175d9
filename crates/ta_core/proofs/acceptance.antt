pub mod Containment
pub mod Acceptance
