pub mod Order
pub mod Visits
pub mod inner
pub mod laws
