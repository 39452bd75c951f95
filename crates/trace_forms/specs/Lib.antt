pub mod Forms
pub mod Parser
