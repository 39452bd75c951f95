pub mod Trails
pub mod Walks
