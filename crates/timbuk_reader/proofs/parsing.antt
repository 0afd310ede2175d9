-- What the parser does to the tokens, by parts of the grammar: what it has read is what the definition reads there.
pub mod ApproximationNames
pub mod ApproximationRules
pub mod ApproximationSection
pub mod Arguments
pub mod Automaton
pub mod AutomatonArguments
pub mod Names
pub mod Parts
pub mod PatternArguments
pub mod PatternNames
pub mod Patterns
pub mod Sections
pub mod Tokens
pub mod TransitionHeads
