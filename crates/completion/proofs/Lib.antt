pub mod Sequences
pub mod Carrying
pub mod StageLaws
pub mod Existence
pub mod EndLaws
pub mod Ending
pub mod Passing
