pub mod Inputs
pub mod Chunks
