-- What the reader's state keeps at all times.
pub mod Answers
pub mod Approximation
pub mod Automata
pub mod Automaton
pub mod Fits
pub mod Fresh
pub mod KeptRules
pub mod Meanings
pub mod Names
pub mod Rules
pub mod Slices
pub mod Start
pub mod Texts
pub mod Words
