pub mod MatchLists
pub mod Uniqueness
pub mod Existence
