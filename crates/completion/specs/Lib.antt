pub mod Stages
pub mod StagesLaws
pub mod Standing
