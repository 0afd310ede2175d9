pub mod Answers
pub mod Rooms
pub mod Searching
pub mod Marking
pub mod Replaying
