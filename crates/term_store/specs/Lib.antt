pub mod Store
pub mod Found
pub mod Rooted
pub mod Index
