pub mod LeastMembers
pub mod Sizing
pub mod Building
pub mod Lowering
pub mod Waiting
