pub mod Convert
pub mod Moments
pub mod Evidence
pub mod Agreement
pub mod Worked
