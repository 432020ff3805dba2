pub mod Nexts
pub mod Changes
pub mod Feeds
pub mod Runs
pub mod Moves
pub mod Orders
