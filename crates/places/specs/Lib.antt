pub mod Phases
pub mod Shifts
pub mod Places
pub mod Remainders
