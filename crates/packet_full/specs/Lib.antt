pub mod Full
pub mod Internal
