pub mod Input
pub mod Tests
pub mod Text
