pub mod Vocabulary
pub mod Matching
pub mod Grammar
pub mod Derivations
pub mod Next
pub mod Trees
pub mod Laws
pub mod lemmas
