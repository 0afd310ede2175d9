-- No text spells two specifications, and no two names that it declares are one.
pub mod Names
pub mod Parts
pub mod Sets
pub mod Specs
