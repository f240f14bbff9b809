pub mod Facing
pub mod Passing
