pub mod OneMore
pub mod Rooms
pub mod Found
