pub mod Admitted
pub mod Trying
pub mod Entries
pub mod Counting
