-- What the code finds: the ends of both sides, what they equate, and what is put together pass by pass.
pub mod PlainParts
pub mod Collected
pub mod Equating
pub mod Leading
pub mod OnTheWay
pub mod Parts
pub mod Gathering
pub mod ForcedRows
