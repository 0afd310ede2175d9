-- Merging keeps coherence.
pub mod Coherence
pub mod MergedCoherence
