pub mod Joins
pub mod Lones
pub mod Pairs
pub mod Rooms
