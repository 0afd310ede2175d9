-- The first fault of a text.
pub mod Apart
pub mod First
