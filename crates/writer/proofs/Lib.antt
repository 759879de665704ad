mod Closing
mod Drafting
mod Grown
pub mod Over
mod Readback
