pub mod Playing
pub mod Writing
pub mod LitDays
pub mod DarkDays
pub mod Days
