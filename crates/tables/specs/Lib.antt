pub mod Addresses
pub mod Excluded
pub mod Held
pub mod Keyed
pub mod Kept
pub mod Listed
