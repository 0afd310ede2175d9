pub mod Codes
pub mod FaultText
pub mod AnswerText
pub mod Files
pub mod Contents
pub mod Checks
pub mod Endings
