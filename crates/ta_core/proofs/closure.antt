pub mod Factor
pub mod Closure
pub mod OpenPairs
pub mod OpenLists
pub mod Ascending
