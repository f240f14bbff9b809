pub mod Facing
pub mod Passed
pub mod Viewed
