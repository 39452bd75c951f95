mod Joined
mod Arrivals
mod WalkSteps
mod NameParts
mod OwnNames
mod PlaceNames
mod Splits
mod ShortParts
