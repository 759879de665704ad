pub mod Bounds
pub mod Forms
pub mod Octets
pub mod Values
