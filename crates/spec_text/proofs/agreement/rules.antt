-- Rules and equations.
pub mod Equations
pub mod Rules
pub mod Sides
