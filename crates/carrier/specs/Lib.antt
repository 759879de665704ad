pub mod Carried
pub mod Connecting
pub mod Links
