pub mod TermLaws
pub mod InstanceLaws
pub mod VariableLaws
pub mod EqLaws
