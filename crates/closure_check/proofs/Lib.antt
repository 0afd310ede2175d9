pub mod sets
pub mod firsts
pub mod triples
