mod Accepted
mod Apart
pub mod Checks
pub mod Demand3
mod Fitting
pub mod Flushing
mod Laps
pub mod Laws
pub mod Lone
mod Moments
mod Owing
mod Rounds
mod Seen
pub mod Settling
mod Steps
pub mod Worked
