pub mod Questions
pub mod Found
