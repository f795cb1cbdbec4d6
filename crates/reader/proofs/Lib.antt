pub mod Steps
pub mod Numbers
pub mod Parting
pub mod Spacing
