pub mod Verdicts
pub mod Shown
pub mod Completing
pub mod VerdictLaws
pub mod Answers
