pub mod Venues
pub mod Rankings
