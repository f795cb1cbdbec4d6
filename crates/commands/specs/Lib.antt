pub mod Tokens
pub mod Commands
pub mod Written
