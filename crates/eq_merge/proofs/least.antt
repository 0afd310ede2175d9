-- Merging is the quotient by the least equivalence in whose quotient nothing is forced; it has one result.
pub mod OneResult
pub mod LeastMerges
pub mod AnyOrder
pub mod Deciding
pub mod Results
