pub mod Normalising
pub mod AtWork
pub mod NormalisingLaws
