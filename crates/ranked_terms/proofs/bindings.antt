-- Bindings, the steps of a match, and the instances that a binding makes.
pub mod BindingLaws
pub mod BoundLaws
pub mod MatchingLaws
