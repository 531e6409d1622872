pub mod Checked
pub mod Levels
pub mod Minimal
pub mod Minimized
pub mod Promises
pub mod Quotient
pub mod Search
