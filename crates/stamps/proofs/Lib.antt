pub mod CountingLaws
pub mod KeysLaws
pub mod KeysMeaning
pub mod StampsLaws
pub mod StampsMeaning
pub mod SumsHold
