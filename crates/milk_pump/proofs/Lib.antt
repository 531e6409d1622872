pub mod Pump
pub mod Table
