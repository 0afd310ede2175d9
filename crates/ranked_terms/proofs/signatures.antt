-- What a signature's list and its map say of its symbols.
pub mod SignatureLaws
pub mod SignatureLemmas
