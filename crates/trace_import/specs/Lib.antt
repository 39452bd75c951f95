pub mod AccountLines
pub mod RefusalLines
pub mod Accounts
pub mod Import
pub mod ImportAll
pub mod ExplainFlattened
pub mod inner
