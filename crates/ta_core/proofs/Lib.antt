pub mod Soundness
pub mod Ranks
pub mod Decided
pub mod closure
pub mod acceptance
pub mod Grown
pub mod LeastTargets
pub mod Marking
