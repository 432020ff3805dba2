pub mod Joining
pub mod Refilling
pub mod Desks
pub mod Settlings
pub mod Tidy
