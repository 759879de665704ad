pub mod Answers
pub mod Keeps
pub mod Meanings
pub mod Places
pub mod Queues
pub mod Waiting
