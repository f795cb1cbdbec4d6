pub mod Desks
pub mod Plays
pub mod Listings
