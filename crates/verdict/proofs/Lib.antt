pub mod Answered
pub mod Meaning
pub mod Parts
pub mod Taken
