pub mod Seats
pub mod Told
pub mod Models
pub mod Walks
pub mod LentLooks
pub mod inner
