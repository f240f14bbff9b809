pub mod Alone
pub mod Changes
pub mod Counts
mod GridTurns
pub mod Handing
pub mod Laws
mod LoneTurns
mod PairTurns
mod Positions
pub mod Rises
mod RoomTurns
