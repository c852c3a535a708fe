pub mod Packet
pub mod Places
pub mod Internal
