pub mod Bytes
pub mod Places
pub mod Pieces
pub mod Lexing
pub mod Cut
pub mod Laws
