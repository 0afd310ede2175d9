pub mod Over
pub mod Ends
pub mod Paths
pub mod Claims
pub mod SearchEnds
pub mod OneVerdict
