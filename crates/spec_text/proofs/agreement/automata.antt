-- Automata.
pub mod Arrows
pub mod Heads
pub mod Many
pub mod Names
pub mod Section
pub mod Specs
pub mod States
pub mod Transitions
