-- Tokens, one after the other: the terminals at which they stand, and the state behind them.
pub mod Exact
pub mod Labelled
pub mod Labels
pub mod Last
pub mod Paths
pub mod Runs
