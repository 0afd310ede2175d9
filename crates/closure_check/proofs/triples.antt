pub mod Assignments
pub mod OpenTriples
pub mod GoingOn
pub mod Narrowing
pub mod Picking
pub mod Walks
