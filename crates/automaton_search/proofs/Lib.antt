mod NameLaws
mod TrailNames
mod WalkLaws
mod WalkSteps
mod ThreeStates
mod VisitLaws
