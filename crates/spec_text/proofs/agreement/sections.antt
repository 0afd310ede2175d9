-- Sections, and whole texts.
pub mod Allowed
pub mod Files
pub mod Many
pub mod One
pub mod Parts
pub mod Spells
pub mod States
pub mod Texts
