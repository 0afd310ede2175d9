-- What is read of a text is what it spells, and the other way round, by parts of the format.
pub mod approximation
pub mod automata
pub mod names
pub mod patterns
pub mod rules
pub mod sections
pub mod tokens
