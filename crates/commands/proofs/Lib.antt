pub mod Next
pub mod Tables
pub mod Tails
pub mod Taken
