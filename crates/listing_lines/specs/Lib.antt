pub mod Decimal
pub mod Internal
pub mod Lines
