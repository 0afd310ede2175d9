pub mod Calls
pub mod Writing
pub mod Named
pub mod Headline
pub mod Laws
