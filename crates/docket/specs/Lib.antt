pub mod Faults
pub mod Plain
pub mod Standing
pub mod Slots
pub mod Runs
pub mod Working
pub mod Promise
