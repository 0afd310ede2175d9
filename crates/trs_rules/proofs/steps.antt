-- Rewriting steps: at a position, at the root, over a signature, and all from one term.
pub mod OverLaws
pub mod PartLaws
pub mod RootLaws
pub mod StepLaws
pub mod SuccessorLaws
