pub mod Joined
pub mod Opens
pub mod Triples
