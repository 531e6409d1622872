pub mod Cover
pub mod Covered
pub mod Levels
pub mod Promises
pub mod Words
