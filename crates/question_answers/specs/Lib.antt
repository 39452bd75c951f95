pub mod Below
pub mod LeastNames
pub mod Findings
pub mod Alone
pub mod inner
