pub mod Letters
pub mod Actions
pub mod First
pub mod Names
pub mod Executions
pub mod Refusals
