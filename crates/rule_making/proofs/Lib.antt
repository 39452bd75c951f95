mod GroupLaws
mod Stays
mod LedStays
mod CopyLaws
mod Walks
mod WalkTests
