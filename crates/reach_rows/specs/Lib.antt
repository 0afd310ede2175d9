pub mod Bits
pub mod Paths
pub mod Tables
pub mod lemmas
