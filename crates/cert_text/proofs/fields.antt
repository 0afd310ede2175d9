-- The words and the fields of a line: numbers, positions, arguments, and what stands around them.
pub mod Texts
pub mod Numbers
pub mod Decimals
pub mod NumberLines
pub mod Readings
pub mod Applied
pub mod Behind
pub mod Arrows
pub mod PathFields
