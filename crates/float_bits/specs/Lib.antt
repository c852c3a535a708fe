pub mod Absolute
pub mod Exact
pub mod Numbers
pub mod Rounding
