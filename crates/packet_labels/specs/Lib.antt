pub mod Labels
pub mod Internal
