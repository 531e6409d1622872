pub mod Judging
pub mod Promises
pub mod Verdict
