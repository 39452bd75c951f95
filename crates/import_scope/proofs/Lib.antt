mod VariablePlaces
mod Opened
mod FaultLaws
mod Passes
mod AskedPaths
