pub mod Codes
pub mod Sides
pub mod Grid
pub mod Kinds
pub mod Ranges
pub mod Rows
pub mod Quotes
pub mod Amendments
