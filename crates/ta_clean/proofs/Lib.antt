pub mod languages
pub mod marking
pub mod least
