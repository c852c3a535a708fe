pub mod Flat
pub mod Internal
