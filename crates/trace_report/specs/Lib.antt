pub mod Status
pub mod Output
pub mod Streams
pub mod Fault
pub mod ReadStreams
pub mod laws
