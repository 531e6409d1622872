pub mod Boards
pub mod Example
