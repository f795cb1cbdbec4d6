pub mod Made
pub mod Decoding
pub mod Bounds
