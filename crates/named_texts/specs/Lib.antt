pub mod Given
pub mod Late
