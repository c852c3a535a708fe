pub mod Layout
pub mod Write
