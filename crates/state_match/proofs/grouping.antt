pub mod GroupLists
pub mod Fronts
pub mod Rests
pub mod Starts
pub mod EachLists
