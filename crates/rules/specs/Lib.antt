pub mod Answers
pub mod Calls
pub mod Demand3
pub mod Lone
pub mod Refusals
pub mod Rounds
pub mod Worked
pub mod World
