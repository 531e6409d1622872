pub mod Answer
pub mod Longest
pub mod Promises
pub mod Survivor
