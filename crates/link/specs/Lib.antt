pub mod Blocks
pub mod Sessions
pub mod Calls
pub mod Questions
pub mod Steps
