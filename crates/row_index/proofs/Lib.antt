pub mod Upkeep
pub mod Vacancies
pub mod Edited
pub mod Cells
mod Undeleted
