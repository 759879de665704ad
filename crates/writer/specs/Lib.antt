pub mod Drafts
pub mod Items
pub mod Laws
pub mod Octets
pub mod Writing
