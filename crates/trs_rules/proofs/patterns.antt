-- The variables of a pattern: walks over them, the first one twice, those of a rule.
pub mod RepeatLaws
pub mod RuleLaws
pub mod VariableLaws
