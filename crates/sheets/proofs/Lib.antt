mod ListTurns
mod RowTurns
pub mod Laws
pub mod LayoutLaws
pub mod LayoutMeaning
pub mod Noted
pub mod Victim
