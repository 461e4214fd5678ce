pub mod Commands
pub mod Pools
pub mod Refusals
pub mod Texts
pub mod Runs
pub mod Reading
pub mod Writing
pub mod Steps
