mod PermsTests
mod LeastSteps
mod MissingSteps
mod ToldLaws
mod EqualRecords
