pub mod Exchanges
pub mod Turns
pub mod Model
pub mod Histories
pub mod Laws
