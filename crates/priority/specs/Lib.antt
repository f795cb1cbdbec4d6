pub mod Ranking
pub mod Lawful
