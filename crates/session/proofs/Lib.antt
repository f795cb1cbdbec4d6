pub mod Desking
pub mod Handing
