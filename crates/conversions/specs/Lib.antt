pub mod Faults
pub mod Fronts
pub mod Sheets
pub mod Hosts
pub mod Along
pub mod Rows
pub mod Replays
pub mod Counts
