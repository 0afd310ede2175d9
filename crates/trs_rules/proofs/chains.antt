-- Chains of steps, also modulo equations, and derivations, with their numbers of steps.
pub mod CountedLaws
pub mod DerivationLaws
pub mod DerivedLaws
pub mod ModuloLaws
