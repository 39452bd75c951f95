pub mod Parts
pub mod Findings
pub mod Lines
pub mod Values
pub mod LintOutput
pub mod inner
