pub mod Agreement
pub mod OneTelegram
pub mod Exactness
pub mod Examples
