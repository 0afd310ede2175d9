-- Names that are declared.
pub mod Heads
pub mod Rows
pub mod States
pub mod Texts
