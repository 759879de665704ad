pub mod Reading
pub mod Types
