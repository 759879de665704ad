pub mod Edits
pub mod Images
pub mod Meanings
