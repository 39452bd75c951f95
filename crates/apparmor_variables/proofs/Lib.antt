mod TextLists
pub mod Places
pub mod PlaceSteps
mod Gets
mod KnownLists
mod WaySteps
mod WayMade
mod FirstValue
mod WayShort
mod AddingSteps
mod PathSteps
mod ListLaws
mod ProblemLaws
pub mod FewLevels
pub mod PathLaws
pub mod CountLaws
mod CountSteps
mod FirstSlashes
mod WholeLaws
