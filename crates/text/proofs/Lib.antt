pub mod Cuts
pub mod Writes
pub mod Feeds
pub mod Accepts
pub mod Laws
