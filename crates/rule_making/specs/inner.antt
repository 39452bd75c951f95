pub mod Readable
pub mod TokenTests
