pub mod Extensions
pub mod Given
