pub mod Numbers
pub mod Conditions
pub mod ReadsBack
pub mod WritesBack
