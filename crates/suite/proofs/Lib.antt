pub mod Any
pub mod Counts
pub mod Different
pub mod Equivalents
pub mod Ends
pub mod Feeding
mod Knowing
mod Levels
pub mod Members
pub mod Once
pub mod Passing
pub mod Places
pub mod Read
pub mod Repeats
pub mod TakenApart
pub mod Tested
pub mod TestsRow
pub mod WithKey
pub mod Marked
