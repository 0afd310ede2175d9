-- The form of lines and terms, and the symbols of a signature.
pub mod Symbols
pub mod TermForms
pub mod TermScan
pub mod OneLine
pub mod Formed
pub mod Written
