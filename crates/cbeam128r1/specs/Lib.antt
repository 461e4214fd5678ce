pub mod Published
pub mod OneShot
pub mod Exact
pub mod Vectors
