pub mod signatures
pub mod bindings
pub mod places
pub mod texts
pub mod SizeLaws
