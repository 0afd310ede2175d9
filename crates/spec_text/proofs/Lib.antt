pub mod agreement
pub mod existence
pub mod faults
pub mod uniqueness
