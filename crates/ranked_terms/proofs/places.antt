-- Positions: one step down, their preorder, and terms that differ in one argument.
pub mod ChangeLaws
pub mod PositionLaws
pub mod PreorderLaws
