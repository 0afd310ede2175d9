pub mod Cases
pub mod StoreLaws
pub mod StepsLaws
pub mod FoundLaws
pub mod LiftLaws
pub mod MatchingLaws
pub mod RootedLaws
pub mod IndexLaws
