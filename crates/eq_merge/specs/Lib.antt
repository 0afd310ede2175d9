pub mod Quotients
pub mod Merging
pub mod MergingLaws
pub mod Joined
pub mod Ends
pub mod Passes
pub mod Rows
pub mod CoherenceLaws
