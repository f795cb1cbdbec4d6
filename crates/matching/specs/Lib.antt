pub mod Market
pub mod Trades
pub mod Firsts
pub mod Sums
pub mod Runs
pub mod Sweeps
