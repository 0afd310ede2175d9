pub mod FirstMembers
pub mod Accepting
pub mod FirstFailures
pub mod LastTerms
pub mod OneAnswer
