-- A text in which no row of the table of faults fits spells a specification.
pub mod Automata
pub mod Entries
pub mod Rules
pub mod Sections
pub mod Shapes
pub mod Specs
