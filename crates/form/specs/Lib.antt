pub mod Rules
pub mod Layouts
pub mod Turns
pub mod Lives
pub mod Monitors
pub mod Form
pub mod Laws
