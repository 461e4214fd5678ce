pub mod Additions
pub mod Hexadecimal
pub mod Replies
pub mod Entries
pub mod Stages
pub mod Underway
pub mod Runs
