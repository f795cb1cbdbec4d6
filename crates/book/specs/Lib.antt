pub mod States
pub mod Causes
pub mod Calls
