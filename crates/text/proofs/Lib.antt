pub mod FieldTurns
mod GatherTurns
pub mod Laws
pub mod NumberTurns
pub mod PutTurns
