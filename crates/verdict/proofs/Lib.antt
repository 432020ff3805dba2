pub mod Reading
pub mod Ruling
pub mod Layers
pub mod Exactly
pub mod Converting
