pub mod Words
pub mod Said
pub mod Commands
pub mod Line
