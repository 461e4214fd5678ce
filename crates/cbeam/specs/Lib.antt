pub mod Bits
pub mod Phi5
pub mod Permutation
pub mod States
pub mod Words
pub mod Orders
