pub mod MarkLists
pub mod Reaching
pub mod Lists
pub mod RunningSets
pub mod Apart
pub mod Entering
