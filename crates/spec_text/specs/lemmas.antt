-- Lemmas on the definitions of this folder. Nobody has to believe them: each is proved, for the proofs of the crates above.
pub mod LastToken
pub mod Shapes
pub mod Specs
pub mod Variables
