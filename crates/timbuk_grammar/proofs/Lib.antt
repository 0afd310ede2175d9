pub mod Texts
pub mod Computed
pub mod Parts
