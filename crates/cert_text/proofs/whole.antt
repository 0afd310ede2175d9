-- Lines that are taken one after the other, and whole texts.
pub mod Composed
pub mod Going
pub mod Stepping
pub mod WholeTexts
