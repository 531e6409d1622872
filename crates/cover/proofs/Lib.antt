pub mod Access
pub mod Collected
pub mod Entries
pub mod Greedy
pub mod Keys
pub mod Reached
pub mod Separating
pub mod Telling
