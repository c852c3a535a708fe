pub mod Profile
pub mod Internal
