-- Lemmas on the definitions of this folder. Nobody has to believe them: each is proved, for the proofs of the crates above.
pub mod Alike
pub mod Choices
pub mod Decided
pub mod Derived
pub mod Differ
pub mod Next
