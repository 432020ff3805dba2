pub mod Faults
pub mod Conversions
