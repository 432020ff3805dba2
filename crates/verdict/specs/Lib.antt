pub mod Layers
pub mod Faults
pub mod Judging
pub mod Rulings
pub mod Rows
pub mod Converting
pub mod Reads
