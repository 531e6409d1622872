pub mod Layers
pub mod Lengths
pub mod Survivors
