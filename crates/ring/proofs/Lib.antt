pub mod Overwritten
pub mod Rings
mod Turns
