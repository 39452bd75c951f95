pub mod Views
pub mod Rule
pub mod News
pub mod inner
pub mod laws
