pub mod Brought
pub mod Runs
pub mod Orders
pub mod Worked
