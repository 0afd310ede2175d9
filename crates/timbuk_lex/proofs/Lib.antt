pub mod Closing
pub mod Cutting
pub mod Fronts
pub mod Cuts
pub mod Ascii
